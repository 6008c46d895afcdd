-- The reply to a message, and what else goes out to one session, as output records.
use mathlib.Core.Path.{◌≡◌, refl, sym, ap, ◌∙◌}
use Prim.Native.Nat.{ℕ}
use Rattle.std.specs.Prelude.{Option}
use mathlib.Core.List.{List, [], ◌∷◌, ◌++◌, append-nil}
use Rattle.model.specs.Records.{Settings}
use Rattle.model.specs.Frames.{frame_record}
use Rattle.model.specs.Session.{Emission, reply}
use Rattle.model.specs.Row.{tag}
use Rattle.model.specs.Calls.{output}
use Rattle.model.proofs.Erase.{output_append}
use Rattle.text.specs.Put.{Put}
use Rattle.text.proofs.Puts.{put_nothing, put_as}
use Rattle.frame.specs.declared.To.{To}
use Rattle.session.specs.Effects.{written, out_bytes}
use Rattle.session.specs.declared.Reply.{Reply}

module _ (to : To) (st : Settings) (told : List ℕ) {r r' : Option Reply} (e : r ≡ r') where
  pub no_reply : {o : List ℕ} → written st told r' ≡ []
      → Put o to.at (out_bytes to.session (written st told r)) to.at o
  no_reply {o} n = put_as (ap (out_bytes to.session) (sym (ap (written st told) e ∙ n))) (put_nothing o to.at)

  pub one_reply : {o o' : List ℕ} {next : ℕ} (frame : List ℕ) → written st told r' ≡ reply frame ∷ []
      → Put o to.at (frame_record to.session frame) next o'
      → Put o to.at (out_bytes to.session (written st told r)) next o'
  one_reply frame n p =
      put_as (sym (append-nil (frame_record to.session frame)) ∙ ap (out_bytes to.session) (sym (ap (written st told) e ∙ n))) p

tag_append : (s : ℕ) (xs ys : List Emission) → tag s (xs ++ ys) ≡ tag s xs ++ tag s ys
tag_append s [] ys = refl
tag_append s (x ∷ xs) ys = ap (record { who = s; what = x } ∷◌) (tag_append s xs ys)

-- one after the other
pub out_append : (s : ℕ) (xs ys : List Emission) → out_bytes s (xs ++ ys) ≡ out_bytes s xs ++ out_bytes s ys
out_append s xs ys = ap output (tag_append s xs ys) ∙ output_append (tag s xs) (tag s ys)
