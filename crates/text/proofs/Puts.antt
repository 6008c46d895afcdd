-- Writes one after another.
use mathlib.Core.Path.{◌≡◌, refl, sym, ap, ap₂, subst, ◌∙◌}
use Prim.Native.Nat.{ℕ, ◌+◌, ◌-◌, ◌≤◌}
use native.Mathlib.Nat.{add-zero, zero-add, add_assoc}
use native.Mathlib.Omega.{arith}
use mathlib.Core.List.{List, [], ◌++◌, append-nil, ◌∷◌}
use lib.ListN.{length, take, drop, length-append, length-drop, drop_of_length-le, set, length-set}
use lib.Seq.{sets, length-sets, sets-eq}
use Rattle.text.specs.Put.{Put, Stands}
use borrow.Rule.Slice.PartMut.{put_mid}
use Rattle.std.proofs.lemmas.Grind.{common_steps}
use Rattle.text.proofs.Numbers.{in_bytes_next, in_bytes_length}
use Rattle.text.proofs.Lists.{sets_sets, sets_swap, sets_over, sets_mid, written, drop_sets, take_sets}

pub put_nothing : (o : List ℕ) (at : ℕ) → Put o at [] at o
put_nothing o at = record { output = refl; place = sym (add-zero at) }

pub put_then : {o o₁ o₂ a b : List ℕ} {at r₁ r₂ : ℕ} → Put o at a r₁ o₁ → Put o₁ r₁ b r₂ o₂ → Put o at (a ++ b) r₂ o₂
put_then {o} {o₁} {o₂} {a} {b} {at} {r₁} {r₂} p q = record {
  output = q.output ∙ ap₂ (λ (l : List ℕ) (n : ℕ). sets l n b) p.output p.place ∙ sets_sets a b o at;
  place =
      q.place ∙ ap (λ (n : ℕ). n + length b) p.place ∙ add_assoc at (length a) (length b)
      ∙ ap (λ (n : ℕ). at + n) (sym (length-append a b));
}

-- what is written before something that stands there already
pub put_before : {o o₁ o₂ d h : List ℕ} {at m r e : ℕ} → Put o m d e o₁ → Put o₁ at h r o₂ → r ≡ m → Put o at (h ++ d) e o₂
put_before {o} {o₁} {o₂} {d} {h} {at} {m} {r} {e} p q z =
    let n : m ≡ at + length h = sym z ∙ q.place in
    record {
      output =
          q.output ∙ ap (λ (l : List ℕ). sets l at h) p.output ∙ sets_swap h d o at m (omega arith)
          ∙ ap (λ (k : ℕ). sets (sets o at h) k d) n ∙ sets_sets h d o at;
      place =
          p.place ∙ ap (λ (k : ℕ). k + length d) n ∙ add_assoc at (length h) (length d) ∙ ap (λ (k : ℕ). at + k) (sym (length-append h d));
    }

-- a part of what was written is written over, by as many bytes
pub put_over : {o o₁ o₂ : List ℕ} {at m r r' : ℕ} (a b b' c : List ℕ) → length b ≡ length b' → m ≡ at + length a
    → Put o at ((a ++ b) ++ c) r o₁ → Put o₁ m b' r' o₂ → Put o at ((a ++ b') ++ c) r o₂
put_over {o} {o₁} {o₂} {at} {m} a b b' c e n p q =
    let l = sets o at a in
    let k = at + length a in
    let j = k + length b in
    let split : (d : List ℕ) → sets (sets l k d) (k + length d) c ≡ sets o at ((a ++ d) ++ c) = λ d.
    let w : at + length (a ++ d) ≡ k + length d = omega (arith, length-append a d) in
    ap₂ (λ (z : List ℕ) (i : ℕ). sets z i c) (sets_sets a d o at) (sym w) ∙ sets_sets (a ++ d) c o at in
    record {
      output =
          q.output ∙ ap₂ (λ (z : List ℕ) (i : ℕ). sets z i b') (p.output ∙ sym (split b)) n
          ∙ sets_swap b' c (sets l k b) k j (omega arith) ∙ ap (λ (z : List ℕ). sets z j c) (sets_over b b' l k e)
          ∙ ap (λ (i : ℕ). sets (sets l k b') (k + i) c) e ∙ split b';
      place = p.place ∙ ap (λ (i : ℕ). at + i) (simp length-append (omega arith));
    }

-- what was written stands there
pub put_stands : {o o' bs : List ℕ} {at r : ℕ} → at + length bs ≤ length o → Put o at bs r o' → Stands o' at r bs
put_stands {o} {o'} {bs} {at} {r} h p =
    let e = p.place in
    let n : r - at ≡ length bs = omega arith in
    record {
      ends = e;
      bytes =
          ap₂ (λ (i : ℕ) (z : List ℕ). take i (drop at z)) n p.output
          ∙ ap (take (length bs)) (ap (λ (i : ℕ). drop at (sets o i bs)) (sym (add-zero at)) ∙ drop_sets bs o at 0)
          ∙ ap (λ (i : ℕ). take i (sets (drop at o) 0 bs)) (sym (zero-add (length bs)))
          ∙ take_sets bs (drop at o) 0 (rw length-drop (omega arith));
    }

-- the same bytes by another name
pub put_as : {o o' bs cs : List ℕ} {at r : ℕ} → bs ≡ cs → Put o at bs r o' → Put o at cs r o'
put_as {o} {o'} {bs} {cs} {at} {r} e p = record {
  output = p.output ∙ ap (sets o at) e;
  place = p.place ∙ ap (λ (l : List ℕ). at + length l) e;
}

-- a write of so many bytes
pub put_of : {o o' : List ℕ} {at r : ℕ} (k : ℕ) (bs : List ℕ) → length bs ≡ k → o' ≡ sets o at bs → r ≡ at + k → Put o at bs r o'
put_of {o} {o'} {at} k bs e p q = record { output = p; place = q ∙ ap (λ (n : ℕ). at + n) (sym e) }

-- a part of the bytes is replaced by as many
pub put_part : (o bs vs : List ℕ) (at k to : ℕ) → vs ≡ bs → length bs ≡ k → to ≡ at + k → to ≤ length o → Put o at bs to (put_mid at k o vs)
put_part o bs vs at k to same size e fits = record {
  output = ap (put_mid at k o) same ∙ sym (sets_mid o bs at k size (omega arith));
  place = e ∙ ap (λ (n : ℕ). at + n) (sym size);
}

-- the same, where the bytes were split at the place
pub put_behind : (o front back bs vs : List ℕ) (at n : ℕ) → front ≡ take at o → back ≡ drop at o → vs ≡ bs → length bs ≡ n
    → at + n ≤ length o → Put o at bs (at + n) (front ++ (vs ++ drop n back))
put_behind o front back bs vs at n before behind same size fits = record {
  output = rw (before, behind, same) (sym (sets_mid o bs at n size fits));
  place = ap (λ (m : ℕ). at + m) (sym size);
}

-- what shows a number's bytes written, one after another
pub ruleset bytes_put = (common_steps, in_bytes_next, in_bytes_length, put_part)

-- what is written to keeps its length
pub put_length : {o o' bs : List ℕ} {at r : ℕ} → Put o at bs r o' → length o' ≡ length o
put_length {o} {o'} {bs} {at} p = ap length p.output ∙ length-sets o at bs

-- ==== a loop of writes: what is left over what is there is all of it over what was there

pub record Left (o : List ℕ) (at : ℕ) (bs : List ℕ) (o' : List ℕ) (to : ℕ) (rest : List ℕ) : Type 0 where
  pub content : sets o' to rest ≡ sets o at bs
  pub place : to + length rest ≡ at + length bs
  pub size : length o' ≡ length o

pub left_all : (o : List ℕ) (at : ℕ) (bs : List ℕ) → Left o at bs o at bs
left_all o at bs = record { content = refl; place = refl; size = refl }

pub left_put : {o bs o₁ o₂ xs ys : List ℕ} {at to r : ℕ} → Left o at bs o₁ to (xs ++ ys) → Put o₁ to xs r o₂ → Left o at bs o₂ r ys
left_put {o} {bs} {o₁} {o₂} {xs} {ys} {at} {to} {r} l p = record {
  content = ap₂ (λ (z : List ℕ) (n : ℕ). sets z n ys) p.output p.place ∙ sets_sets xs ys o₁ to ∙ l.content;
  place =
      ap (λ (n : ℕ). n + length ys) p.place ∙ add_assoc to (length xs) (length ys) ∙ ap (λ (n : ℕ). to + n) (sym (length-append xs ys))
      ∙ l.place;
  size = put_length p ∙ l.size;
}

-- the next byte is written
pub left_set : {o bs o' rest more : List ℕ} {at x : ℕ} (from i : ℕ) → rest ≡ x ∷ more → Left o at bs o' (from + i) rest
    → Left o at bs (set o' (from + i) x) (from + (i + 1)) more
left_set {o' = o'} {x = x} from i e l = record {
  content = written o' from i x e l.content;
  place = omega (arith, ap length e, l.place);
  size = length-set o' (from + i) x ∙ l.size;
}

pub left_none : {o bs o' : List ℕ} {at to : ℕ} → Left o at bs o' to [] → Put o at bs to o'
left_none {o} {bs} {o'} {at} {to} l = record { output = l.content; place = sym (add-zero to) ∙ l.place }

-- what is left, by another name
pub left_as : {o bs o' xs ys : List ℕ} {at to : ℕ} → xs ≡ ys → Left o at bs o' to xs → Left o at bs o' to ys
left_as {o} {bs} {o'} {xs} {ys} {at} {to} e l = subst (λ (z : List ℕ). Left o at bs o' to z) e l

-- ==== a scratch array that is written over whole

pub scratch : {o o' bs : List ℕ} {r : ℕ} → length o ≡ length bs → Put o 0 bs r o' → o' ≡ bs
scratch {o} {o'} {bs} e p =
    p.output ∙ sets-eq bs o 0 (omega arith) ∙ ap (λ (l : List ℕ). bs ++ l) (drop_of_length-le o {i = 0 + length bs} (omega arith))
    ∙ append-nil bs
