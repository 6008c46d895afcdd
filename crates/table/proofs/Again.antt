-- An event's copy that was written last: what stands there, and that it can go to another session once more.
use borrow.Author.Rules.{rules}
use denote.Enum.Bare.{sameb, same_true}
use Rattle.model.specs.contracts.Kind.{the_type}
use mathlib.Core.Path.{◌≡◌, sym, ap}
use mathlib.Core.Bool.{true, beq, ◌&&◌, and-eq-true_iff}
use lib.Dec.{eqb}
use Prim.Native.Nat.{ℕ, ◌+◌, ◌≤◌}
use native.Mathlib.Omega.{arith}
use mathlib.Core.List.{List}
use lib.ListN.{length}
use Rattle.model.specs.Bytes.{in_bytes}
use Rattle.model.specs.Records.{Settings, record_head}
use Rattle.model.specs.Named.{place_of}
use Rattle.model.specs.Kinds.{kind_at, copy_most}
use Rattle.model.specs.Frames.{event_frame, frame_record}
use Rattle.text.proofs.Puts.{put_as, put_stands}
use Rattle.frame.specs.Places.{event_in}
use Rattle.frame.specs.Output.{WrittenAgain, Repeatable}
use Rattle.frame.specs.declared.To.{To}
use Rattle.frame.specs.declared.Asked.{Asked}
use Rattle.table.specs.declared.Copied.{Copied}
use Rattle.table.specs.Table.{settings_in}
use Rattle.table.specs.declared.Next.{Next}
use Rattle.table.specs.Passes.{Last, AskedLent, Copies}

-- the one that has been written is the last
pub last_now : {st : Settings} {asked : Asked} {p o o' : List ℕ} {to : To} {next : ℕ}
    → to.at + copy_most (kind_at (place_of asked.kind)) ≤ length o → Copies st asked p to o next o'
    → Last st (place_of asked.kind) p next o' (record { from = to.at; asked = asked })
last_now {to = to} room v =
    let e = v.bytes.place in
    let w = v.within in
    record { few = w; shown = record { session = to.session; stands = put_stands (omega arith) v.bytes } }

-- ==== once more

record_long : (s : ℕ) (bs : List ℕ) → record_head ≤ length (frame_record s bs)
unfolding frame_record in_bytes
record_long s bs = omega arith

-- what `==` of two tells
pub alike : {a b : Asked} → true ≡ sameb the_type a.kind b.kind && (eqb a.revision b.revision && beq a.no_acknowledge b.no_acknowledge)
    → a ≡ b
alike {a} {b} e =
    let parts = (and-eq-true_iff (sameb the_type a.kind b.kind)
    (eqb a.revision b.revision && beq a.no_acknowledge b.no_acknowledge)).0 (sym e) in
    let kind : a.kind ≡ b.kind = same_true the_type (search rules) _ _ parts.0 in
    search rules

-- where the last one was asked for alike
module _ {t o p : List ℕ} {n : Next} {asked : Asked} (l : AskedLent t o n asked p) {c : Copied}
    (last : Last (settings_in t) (place_of asked.kind) p n.to.at o c) where
  pub again_lent : Repeatable o n.to c.from
  again_lent =
      let s = last.shown in
      let e = s.stands.ends in
      let long = record_long s.session
      (event_frame (settings_in t) c.asked.revision c.asked.no_acknowledge (event_in (place_of asked.kind) p)) in
      let f = last.few in
      let few = l.lent.session in
      let room = l.lent.room in
      record { output = record { room = omega arith; numbered = omega arith }; whole = omega arith }

  pub copied_again : {next : ℕ} {o' : List ℕ} → c.asked ≡ asked → WrittenAgain o n.to c.from next o'
      → Copies (settings_in t) asked p n.to o next o'
  copied_again alike v =
      let e = v.place in
      let f = last.few in
      let said : Asked → List ℕ = λ a. event_frame (settings_in t) a.revision a.no_acknowledge (event_in (place_of asked.kind) p) in
      record {
        within = omega arith;
        bytes = put_as (ap (λ (a : Asked). frame_record n.to.session (said a)) alike) (v.put _ last.shown);
      }
