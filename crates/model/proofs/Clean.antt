-- Clean texts: whatever a start or a tool record brings in was tested, so that its values are within their items, and a run is cut at its
-- NUL, so that nothing of it has one.
use Prim.Native.Nat.{ℕ, suc, ◌+◌, ◌≤◌, ◌<◌}
use mathlib.Core.Path.{◌≡◌, refl, sym, ◌∙◌, subst}
use mathlib.Core.Bool.{Bool, true, false, cond, not, ◌&&◌, ◌||◌, true≢false}
use mathlib.Core.List.{List, [], ◌∷◌, ◌++◌}
use mathlib.Core.Option.{Option, none, some}
use native.Mathlib.Omega.{arith}
use lib.Dec.{leb, ltb, eqb}
use lib.ListN.{length, take, drop, length-take, length-drop}
use lib.Seq.{take_all, take-take, length-take-le}
use borrow.Author.Tests.{leb-true, eqb-true, eqb-false, eq-eqb, not-false}
use Rattle.model.specs.Limits.{header_length, identifier_length, number_greatest, never_set, run_kept}
use Rattle.model.specs.Bytes.{NUL, is_digit, all, places, decimal, little}
use Rattle.model.specs.Records.{is_record, payload, Item, number, limit, text, time, item_length, payload_length, parts_from}
use Rattle.model.specs.Records.{good_in_time, is_time_from, good_item, good_parts, good_payload, good_record, limit_of, value_of}
use Rattle.model.specs.Records.{values_of, values}
use Rattle.model.specs.Records.{settings_record_kind, tightening_record_kind, scanned_record_kind, alarm_record_kind, settings_items}
use Rattle.model.specs.Records.{settings_of, read_settings, tightening_items, tightening_of, identifier_in, scanned_items}
use Rattle.model.specs.Records.{alarm_items, alarm_of, Tool, scanned, tightening, alarm, read_tool}
use Rattle.model.specs.Runs.{Run, longer, cut, Message, is_message, message_of, read_run}
use Rattle.model.specs.Messages.{Effect, starts, stops, identifies, subscribes, unsubscribes, acknowledges, fetches, mirrors}
use Rattle.model.specs.Messages.{Entry, table, listed, entry_of, Error, already_started, wrong_length, wrong_revision, wrong_data}
use Rattle.model.specs.Messages.{code, Standing, good_length, good_among, good_data, own_test, tested}
use Rattle.model.specs.Tests.{first}
use Rattle.model.specs.Wire.{Every, NoNUL, Framed}
use Rattle.model.specs.FieldsRead.{limit_within, is_within, all_within}
use Rattle.model.proofs.Framed.{both, left, right, either, every_take, every_of, IfAny, Shown, nul_append, nul_text}
use Rattle.model.proofs.Framed.{nul_in_time, Fit, Text, Identifier, CleanSettings}
use Rattle.model.proofs.Legible.{reported_items, number_within}

-- ==== records: the texts of a good one

nul_time : (place : ℕ) (bs : List ℕ) → is_time_from place bs ≡ true → NoNUL bs
nul_time place [] h = tt
nul_time place (b ∷ bs) h =
    let k = both (good_in_time place b) (is_time_from (suc place) bs) h in
    (nul_in_time place b k.0, nul_time (suc place) bs k.1)

-- what a good payload says is within its items, and can stand in fields, if no item is longer
abbrev slim_item : Item → Bool
slim_item e = leb (item_length e) identifier_length

good_limit : (greatest n : ℕ) → (leb n greatest || eqb n never_set) ≡ true → limit_within greatest (limit_of n) ≡ true
good_limit greatest n h = go (eqb n never_set) (leb n greatest) refl h
  where
    go : (a b : Bool) → leb n greatest ≡ b → (b || a) ≡ true → limit_within greatest (cond a none (some n)) ≡ true
    go true b e k = refl
    go false true e k = e
    go false false e k = absurd (true≢false (sym k))

good_value : (e : Item) (bs : List ℕ) → good_item e bs ≡ true → length bs ≡ item_length e
    → (slim_item e ≡ true → Fit (value_of e bs)) × (is_within e (value_of e bs) ≡ true)
good_value (number size greatest) bs h n = (λ s. tt, h)
good_value (limit size greatest) bs h n = (λ s. tt, good_limit greatest (little bs) h)
good_value (text size) bs h n =
    (λ s. record { no_NUL = nul_text bs h; short = omega (arith, leb-true size identifier_length s) }, eq-eqb (length bs) size n)
good_value time bs h n = (λ s. record { no_NUL = nul_time 1 bs h; short = omega arith }, eq-eqb (length bs) _ n)

good_values : (es : List Item) (at : ℕ) (bs : List ℕ) → good_parts es (parts_from at es bs) ≡ true → at + payload_length es ≤ length bs
    → (all slim_item es ≡ true → Every Fit (values_of es (parts_from at es bs)))
    × (all_within es (values_of es (parts_from at es bs)) ≡ true)
good_values [] at bs h n = (λ s. tt, refl)
good_values (e ∷ es) at bs h n =
    let p = take (item_length e) (drop at bs) in
    let g = both (good_item e p) _ h in
    let v = good_value e p g.0 (omega (arith, length-take (item_length e) (drop at bs), length-drop at bs)) in
    let vs = good_values es (at + item_length e) bs g.1 (omega arith) in
    (λ s. let t = both (slim_item e) (all slim_item es) s in (v.0 t.0, vs.0 t.1), rw v.1 vs.1)

payload_says : (es : List Item) (bs : List ℕ) → good_payload es bs ≡ true
    → (all slim_item es ≡ true → Every Fit (values es bs)) × (all_within es (values es bs) ≡ true) × (length bs ≡ payload_length es)
unfolding good_payload
payload_says es bs h =
    let g = both (eqb (length bs) (payload_length es)) _ h in
    let e = eqb-true (length bs) (payload_length es) g.0 in
    let v = good_values es 0 bs g.1 (omega arith) in
    (v.0, v.1, e)

pub payload_within : (es : List Item) (bs : List ℕ) → good_payload es bs ≡ true → all_within es (values es bs) ≡ true
payload_within es bs h = (payload_says es bs h).1

good_said : (record_kind : ℕ) (es : List Item) (slice : List ℕ) → all slim_item es ≡ true → good_record record_kind es slice ≡ true
    → Every Fit (values es (payload slice)) × (all_within es (values es (payload slice)) ≡ true)
    × (length (payload slice) ≡ payload_length es)
unfolding good_record
good_said record_kind es slice s h =
    let v = payload_says es (payload slice) (both (is_record record_kind slice) _ h).1 in (v.0 s, v.1, v.2)

-- a start takes good settings only
pub clean_start : (slice : List ℕ) → IfAny CleanSettings (read_settings slice)
unfolding read_settings settings_of
clean_start slice = go (good_record settings_record_kind settings_items slice) refl
  where
    go : (b : Bool) → good_record settings_record_kind settings_items slice ≡ b → IfAny CleanSettings (read_settings slice)
    go true e =
        let v = good_said settings_record_kind settings_items slice refl e in
        rw e record {
          texts = v.0;
          within = v.1;
          last = omega (arith, number_within (suc number_greatest) settings_items (values settings_items (payload slice)) 4 v.1 refl);
        }
    go false e = rw e tt

abbrev pub CleanTool : Tool → Type 0
CleanTool (scanned x) = Identifier x
CleanTool (tightening x t) = Identifier x × Every Fit t × (all_within reported_items t ≡ true)
CleanTool (alarm vs) = Every Fit vs × (all_within alarm_items vs ≡ true)

-- and a tool record is good
pub clean_tool : (slice : List ℕ) → IfAny CleanTool (read_tool slice)
unfolding read_tool tightening_of alarm_of
clean_tool slice =
    go (good_record tightening_record_kind tightening_items slice) (good_record scanned_record_kind scanned_items slice)
    (good_record alarm_record_kind alarm_items slice) refl refl refl
  where
    go : (a b c : Bool) → good_record tightening_record_kind tightening_items slice ≡ a
        → good_record scanned_record_kind scanned_items slice ≡ b → good_record alarm_record_kind alarm_items slice ≡ c
        → IfAny CleanTool (read_tool slice)
    go true b c e f g =
        let v = good_said tightening_record_kind tightening_items slice refl e in
        let n = length (identifier_in (payload slice)) in
        let w = both (eqb n identifier_length) (all_within reported_items (tightening_of (payload slice))) v.1 in
        rw e (record { clean = v.0.0; whole = eqb-true n identifier_length w.0 }, v.0.1, w.1)
    go false true c e f g =
        let v = good_said scanned_record_kind scanned_items slice refl f in
        rw (e, f) record { clean = subst Text (take_all identifier_length (payload slice) (omega arith)) v.0.0; whole = v.2 }
    go false false true e f g = let v = good_said alarm_record_kind alarm_items slice refl g in rw (e, f, g) (v.0, v.1)
    go false false false e f g = rw (e, f, g) tt

-- ==== runs: a piece of bytes ends before its NUL, and so nothing that is kept has one

pub nul_cut : (bs : List ℕ) → NoNUL (cut bs).bytes
unfolding cut
nul_cut [] = tt
nul_cut (b ∷ bs) = go (eqb b NUL) refl (nul_cut bs)
  where
    go : (t : Bool) → eqb b NUL ≡ t → NoNUL (cut bs).bytes → NoNUL (cut (b ∷ bs)).bytes
    go true e h = rw e tt
    go false e h = rw e (eqb-false b NUL e, h)

abbrev pub CleanRun : Run → Type 0
CleanRun r = NoNUL r.kept

pub clean_longer : (r : Run) (bs : List ℕ) → CleanRun r → NoNUL bs → CleanRun (longer r bs)
clean_longer r bs h k = every_take Shown run_kept (r.kept ++ bs) (nul_append r.kept bs h k)

-- the number that four digits give, or fewer
digit_most : (b : ℕ) → is_digit b ≡ true → b ≤ 0x39
digit_most b h = leb-true b 0x39 (both (leb 0x30 b) (leb b 0x39) h).1

four_digits : (bs : List ℕ) → all is_digit (take 4 bs) ≡ true → decimal (take 4 bs) < 10_000
four_digits [] h = omega arith
four_digits (a ∷ []) h = let k = every_of is_digit (a ∷ []) h in omega (arith, digit_most)
four_digits (a ∷ b ∷ []) h = let k = every_of is_digit (a ∷ b ∷ []) h in omega (arith, digit_most)
four_digits (a ∷ b ∷ c ∷ []) h = let k = every_of is_digit (a ∷ b ∷ c ∷ []) h in omega (arith, digit_most)
four_digits (a ∷ b ∷ c ∷ d ∷ bs) h = let k = every_of is_digit (a ∷ b ∷ c ∷ d ∷ []) h in omega (arith, digit_most)

-- the header of a message of 20 bytes is a frame, its data field is no longer than an identifier, and its number has four digits
pub record CleanMessage (m : Message) : Type 0 where
  pub own : m.size ≡ header_length → Framed m.header
  pub short : length m.data_field ≤ identifier_length
  pub mid : m.mid < 10_000

pub clean_end : (r : Run) → CleanRun r → length r.kept ≤ run_kept → IfAny CleanMessage (read_run r)
unfolding read_run
clean_end r h short = go (is_message r) refl
  where
    go : (b : Bool) → is_message r ≡ b → IfAny CleanMessage (cond b (some (message_of r)) none)
    go true e =
        let n = leb-true header_length (length r.kept) (search (left, right) depth 8) in
        let is : all is_digit (places 1 4 r.kept) ≡ true = search (left, right) depth 8 in
        let own : eqb (decimal (places 1 4 r.kept)) r.count ≡ true = search (left, right) depth 8 in
        let header_is = length-take-le header_length r.kept n in
        record {
          own = λ size. record {
            no_NUL = every_take Shown header_length r.kept h;
            has_header = omega arith;
            in_digits = rw (take-take 4 20 r.kept (omega arith)) is;
            own_length =
                rw (take-take 4 20 r.kept (omega arith))
                (eqb-true (decimal (places 1 4 r.kept)) r.count own ∙ size ∙ sym header_is);
          };
          short = omega (arith, length-drop header_length r.kept);
          mid = four_digits (drop 4 r.kept) (search (left, right) depth 8);
        }
    go false e = tt

-- (what is there is not missing)
pub there : {A : Type 0} {a : A} → some a ≡ none → ⊥
there e = let z : ◌≡◌ {A = ℕ} 0 1 = cc in omega arith

-- ==== the table: what a computed test over it says of the entry of a number

listed_at : (test : Entry → Bool) (es : List Entry) → all test es ≡ true → (mid : ℕ) (e : Entry) → listed es mid ≡ some e
    → (e.mid ≡ mid) × (test e ≡ true)
listed_at test [] h mid e q = absurd (there (sym q))
listed_at test (f ∷ es) h mid e q =
    let s = both (test f) (all test es) h in go s.0 (eqb f.mid mid) refl q (λ p. listed_at test es s.1 mid e p)
  where
    go : test f ≡ true → (b : Bool) → eqb f.mid mid ≡ b → cond b (some f) (listed es mid) ≡ some e
        → (listed es mid ≡ some e → (e.mid ≡ mid) × (test e ≡ true)) → (e.mid ≡ mid) × (test e ≡ true)
    go s true n p ih = let r : f ≡ e = cc in rw (← r) (eqb-true f.mid mid n, s)
    go s false n p ih = ih p

pub entry_at : (test : Entry → Bool) → all test table ≡ true → (mid : ℕ) (e : Entry) → entry_of mid ≡ some e
    → (e.mid ≡ mid) × (test e ≡ true)
unfolding entry_of
entry_at test h mid e q = listed_at test table h mid e q

-- what mirrors is a 9999 of 20 bytes, and what fetches is a 0064
abbrev pub as_listed : Effect → ℕ → ℕ → ℕ → Bool
as_listed starts mid least greatest = true
as_listed stops mid least greatest = true
as_listed (identifies n) mid least greatest = true
as_listed (subscribes kind n) mid least greatest = true
as_listed (unsubscribes kind n) mid least greatest = true
as_listed (acknowledges kind) mid least greatest = true
as_listed (fetches n) mid least greatest = eqb mid 0064
as_listed mirrors mid least greatest = eqb mid 9999 && eqb least header_length && eqb greatest header_length

pub listed_so : (mid : ℕ) (e : Entry) → entry_of mid ≡ some e → as_listed e.effect mid e.least e.greatest ≡ true
listed_so mid e q =
    let s = entry_at (λ f. as_listed f.effect f.mid f.least f.greatest) refl mid e q in
    rw (← s.0) s.1

-- ==== the number of an error has two digits

abbrev pub short_code : Option Error → Bool
short_code none = true
short_code (some e) = ltb (code e) 100

pub code_short : (x : Standing) (mid : ℕ) (o : Option Entry) → entry_of mid ≡ o → (size revision : ℕ) (bs : List ℕ)
    → short_code (tested x o size revision bs) ≡ true
code_short x mid none q size revision bs = refl
code_short x mid (some e) q size revision bs =
    let own_short = (entry_at (λ f. short_code (own_test x f.effect bs).answer) refl mid e q).1 in
    by_test (x.started && eqb e.mid 0001) _ _ refl
    (by_test (not (good_length e size)) _ _ refl
    (by_test (not (good_among e.revision revision)) _ _ refl
    (by_test (not (good_data e.effect bs)) _ _ refl
    (by_test (own_test x e.effect bs).applies _ none own_short refl))))
  where
    by_test : (b : Bool) (o p : Option Error) → short_code o ≡ true → short_code p ≡ true → short_code (cond b o p) ≡ true
    by_test = either (λ (o : Option Error). short_code o ≡ true)

-- a message that has no error has a good length, good data, and none of its own
pub passed : (x : Standing) (e : Entry) (size revision : ℕ) (bs : List ℕ) → tested x (some e) size revision bs ≡ none
    → (good_length e size ≡ true) × (good_data e.effect bs ≡ true) × (first none (own_test x e.effect bs ∷ []) ≡ none)
passed x e size revision bs h =
    let a = past (x.started && eqb e.mid 0001) already_started _ h in
    let b = past (not (good_length e size)) wrong_length _ a.1 in
    let c = past (not (good_among e.revision revision)) wrong_revision _ b.1 in
    let d = past (not (good_data e.effect bs)) wrong_data _ c.1 in
    (not-false (good_length e size) b.0, not-false (good_data e.effect bs) d.0, d.1)
  where
    past : (b : Bool) (x : Error) (o : Option Error) → cond b (some x) o ≡ none → (b ≡ false) × (o ≡ none)
    past true x o e = absurd (there e)
    past false x o e = (refl, e)
