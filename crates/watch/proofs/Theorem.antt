-- Demand 3 of every history of such calls that begins with nothing open and nothing waiting.
use Prim.Native.Nat.{ℕ, ◌+◌, ◌*◌, ◌/◌, ◌≤◌, min}
use mathlib.Core.Path.{◌≡◌, refl, sym, ◌∙◌, ap, subst}
use mathlib.Core.Bool.{Bool, true, false, cond}
use mathlib.Core.List.{List, [], ◌∷◌, ◌++◌, append_assoc}
use native.Mathlib.Omega.{arith}
use lib.ListN.{length}
use Rattle.model.specs.Limits.{copy_every, most_repeats, most_copies}
use Rattle.model.specs.Kinds.{Room, up_to}
use Rattle.watch.specs.Marks.{Mark, all_sent, copies, ticks_open, First, frame_of, taken, Demand3, InTime}
use Rattle.watch.specs.Course.{empty, Course}
use Rattle.watch.proofs.Histories.{copies_join, course_before, counted, framed, held, dropped, subscribers, bounded, taken_in_time}

-- what comes after a call that closes does not count
ticks_to : (xs : List Mark) (c : Mark) (ys : List Mark) → c.closes ≡ true → ticks_open (xs ++ c ∷ ys) ≡ ticks_open xs
ticks_to [] c ys e = rw e
ticks_to (x ∷ xs) c ys e = rw (ticks_to xs c ys e)

same_for : (a : Bool) (x y p q r : ℕ) → x ≡ cond a (1 + p) 1 → y ≡ cond a (1 + q) 1 → p ≡ q → x ≡ y + r → r ≡ 0
same_for true x y p q r u v w h = omega arith
same_for false x y p q r u v w h = omega arith

module _ {room : Room} {k : ℕ} where
  number_of : (n : ℕ) (before : List Mark) (m : Mark) (later : List Mark) → Course room k empty (before ++ m ∷ later) → First n before m
      → {b : Bool} → m.asked ≡ b → copies n (before ++ m ∷ later) ≡ cond b (1 + min most_repeats (ticks_open later / copy_every)) 1
  number_of n before m later c f a =
      counted n before m later c tt tt f.none_before f.sends
      ∙ ap (λ (b : Bool). cond b (1 + min most_repeats (ticks_open later / copy_every)) 1) a

  closed_once : (n : ℕ) (before : List Mark) (m : Mark) (between : List Mark) (c : Mark) (later : List Mark)
      → Course room k empty ((before ++ m ∷ between) ++ c ∷ later) → First n before m → c.closes ≡ true → copies n (c ∷ later) ≡ 0
  closed_once n before m between c later h f e =
      let r : (before ++ m ∷ between) ++ c ∷ later ≡ before ++ m ∷ (between ++ c ∷ later) = append_assoc before (m ∷ between) (c ∷ later) in
      same_for m.asked (copies n (before ++ m ∷ (between ++ c ∷ later))) (copies n (before ++ m ∷ between))
      (min most_repeats (ticks_open (between ++ c ∷ later) / copy_every)) (min most_repeats (ticks_open between / copy_every))
      (copies n (c ∷ later))
      (number_of n before m (between ++ c ∷ later) (subst (Course room k empty) r h) f refl)
      (number_of n before m between (course_before (before ++ m ∷ between) (c ∷ later) h) f refl)
      (ap (λ (t : ℕ). min most_repeats (t / copy_every)) (ticks_to between c later e))
      (ap (copies n) (sym r) ∙ copies_join n (before ++ m ∷ between) (c ∷ later))

  -- DEMAND 3
  pub demand_3 : {ms : List Mark} → Course room k empty ms → Demand3 ms
  demand_3 {ms} c = record {
    acknowledged = λ n before m later e f a.
        ap (copies n) e ∙ number_of n before m later (subst (Course room k empty) e c) f a
        ∙ (let t = ticks_open later in omega arith);
    plain = λ n before m later e f a. ap (copies n) e ∙ number_of n before m later (subst (Course room k empty) e c) f a;
    equal = framed (λ n. frame_of n ms) c (λ n l. refl) tt;
    never_again = λ n before m between d later e f a. closed_once n before m between d later (subst (Course room k empty) e c) f a;
    never_kept = λ n before d later e f l. dropped n before d later (subst (Course room k empty) e c) f l;
    fresh = λ before m later e. held [] before m later (subst (Course room k empty) e c) tt;
    only_subscribed = subscribers c;
  }

  -- most_copies (six) at most for each event that was taken
  pub few : {ms : List Mark} → Course room k empty ms → length (all_sent ms) ≤ most_copies * taken ms
  few c = let h = bounded c tt in omega arith

-- what is taken of a kind of which several wait goes out in time
pub goes_out_in_time : {most k : ℕ} {ms : List Mark} → Course (up_to most) k empty ms → InTime most ms
goes_out_in_time {most} {k} c before m later e t u l =
    taken_in_time before m later (subst (Course (up_to most) k empty) e c) tt t u l
