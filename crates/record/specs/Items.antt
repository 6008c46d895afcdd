-- The records that a call takes and the items of their payloads as the code has them, in the model's terms. 01, "House records".
use Rattle.std.specs.Prelude.{ℕ, List}
use Rattle.model.specs.Records.{number, limit, text, time, settings_items, tightening_items, scanned_items, alarm_items}
use Rattle.model.specs.Records.{settings_record_kind, tightening_record_kind, scanned_record_kind, alarm_record_kind}
use Rattle.model.specs.Records.{Item as ModelItem}
use Rattle.record.specs.declared.Item.{Item}
use Rattle.record.specs.declared.Item.TheVariants.{Byte, Short, Long, Limit, Text, Time}
use Rattle.record.specs.declared.RecordKind.{RecordKind}
use Rattle.record.specs.declared.RecordKind.TheVariants.{Settings, Tightening, Scanned, Alarm}

abbrev pub item_of : Item → ModelItem
item_of (Byte greatest) = number 1 greatest
item_of (Short greatest) = number 2 greatest
item_of (Long greatest) = number 4 greatest
item_of (Limit greatest) = limit 4 greatest
item_of (Text size) = text size
item_of Time = time

abbrev pub items_of : RecordKind → List ModelItem
items_of Settings = settings_items
items_of Tightening = tightening_items
items_of Scanned = scanned_items
items_of Alarm = alarm_items

abbrev pub number_of : RecordKind → ℕ
number_of Settings = settings_record_kind
number_of Tightening = tightening_record_kind
number_of Scanned = scanned_record_kind
number_of Alarm = alarm_record_kind
