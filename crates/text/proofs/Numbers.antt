-- Numbers in bytes: how wide they are, and a byte or a digit more.
use mathlib.Core.Path.{◌≡◌, refl, ap, ◌∙◌}
use Prim.Native.Nat.{ℕ, zero, suc, ◌+◌, ◌-◌, ◌*◌, ◌/◌, ◌%◌, ◌^◌, ◌≤◌, ◌<◌}
use native.Mathlib.Nat.{pow-le-pow_right}
use native.Mathlib.Numerals.{add-one}
use native.Mathlib.Omega.{arith}
use mathlib.Core.List.{List, [], ◌∷◌, ◌++◌, append_assoc}
use lib.ListN.{length, get_or, take, drop, length-append}
use Rattle.model.specs.Bytes.{digits, little, in_bytes}
use Rattle.text.proofs.Lists.{drop_next}

-- ==== widths

pub digits_length : (width n : ℕ) → length (digits width n) ≡ width
unfolding digits
digits_length zero n = refl
digits_length (suc width) n = rw (length-append, digits_length width (n / 10), add-one)

pub in_bytes_length : (size n : ℕ) → length (in_bytes size n) ≡ size
unfolding in_bytes
in_bytes_length zero n = refl
in_bytes_length (suc size) n = ap suc (in_bytes_length size (n / 256))

-- ==== a byte or two digits more, at a number as the code counts it

pub digits_pair : (i n : ℕ) → 2 ≤ i → digits i n ≡ digits (i - 2) (n / 100) ++ digits 2 (n % 100)
unfolding digits
digits_pair zero n h = absurd (omega arith)
digits_pair (suc zero) n h = absurd (omega arith)
digits_pair (suc (suc i)) n h =
    let k : suc (suc i) - 2 ≡ i = omega arith in
    let a : n / 100 ≡ n / 10 / 10 = omega arith in
    let b : n % 100 / 10 % 10 ≡ n / 10 % 10 = omega arith in
    let c : n % 100 % 10 ≡ n % 10 = omega arith in
    rw (k, a, b, c) (append_assoc (digits i (n / 10 / 10)) ((0x30 + n / 10 % 10) ∷ []) ((0x30 + n % 10) ∷ []))

-- a byte and what stands above it
byte_below : (x n : ℕ) → x < 256 → ((x + 256 * n) % 256 ≡ x) × ((x + 256 * n) / 256 ≡ n)
byte_below x n h = (omega arith, omega arith)

-- two digits as a number of two bytes
two_bytes : (a b : ℕ) → a < 10 → b < 10 → in_bytes 2 (a + 256 * b + 0x3030) ≡ (0x30 + a) ∷ (0x30 + b) ∷ []
unfolding in_bytes
two_bytes a b h g =
    let e : a + 256 * b + 0x3030 ≡ 0x30 + a + 256 * (0x30 + b) = omega arith in
    let parts = byte_below (0x30 + a) (0x30 + b) (omega arith) in
    let small : (0x30 + b) % 256 ≡ 0x30 + b = omega arith in
    rw (e, parts.0, parts.1, small)

pub pair_bytes : (n : ℕ) → n < 100 → in_bytes 2 (n / 10 + 256 * (n % 10) + 0x3030) ≡ digits 2 n
unfolding digits
pair_bytes n h =
    let e : n / 10 ≡ n / 10 % 10 = omega arith in
    two_bytes (n / 10) (n % 10) (omega arith) (omega arith) ∙ ap (λ (d : ℕ). (0x30 + d) ∷ (0x30 + n % 10) ∷ []) e

pub in_bytes_next : (size i n : ℕ) → i < size → in_bytes (size - i) n ≡ n % 256 ∷ in_bytes (size - (i + 1)) (n / 256)
unfolding in_bytes
in_bytes_next size i n h = let e : size - i ≡ suc (size - (i + 1)) = omega arith in ap (λ (k : ℕ). in_bytes k n) e

-- two bytes, and four
pub little_2 : (l : List ℕ) (at : ℕ) → at + 2 ≤ length l → little (take 2 (drop at l)) ≡ get_or l at 0 + 256 * get_or l (at + 1) 0
little_2 l at h = rw (drop_next l at 0 (omega arith), drop_next l (at + 1) 0 (omega arith)) (omega arith)

pub little_4 : (l : List ℕ) (at : ℕ) → at + 4 ≤ length l → little (take 4 (drop at l))
    ≡ get_or l at 0 + 256 * get_or l (at + 1) 0 + 65_536 * get_or l (at + 2) 0 + 16_777_216 * get_or l (at + 3) 0
little_4 l at h =
    let a : at + 1 + 1 ≡ at + 2 = omega arith in
    let b : at + 2 + 1 ≡ at + 3 = omega arith in
    rw (
      drop_next l at 0 (omega arith),
      drop_next l (at + 1) 0 (omega arith),
      a,
      drop_next l (at + 2) 0 (omega arith),
      b,
      drop_next l (at + 3) 0 (omega arith),
    ) (omega arith)

-- bytes that were read are those that are written
pub same_bytes : (size at : ℕ) (l : List ℕ) → ((i : ℕ) → get_or l i 0 < 256) → at + size ≤ length l
    → in_bytes size (little (take size (drop at l))) ≡ take size (drop at l)
unfolding in_bytes
same_bytes zero at l b h = refl
same_bytes (suc size) at l b h =
    let x = get_or l at 0 in
    let n = little (take size (drop (at + 1) l)) in
    let parts = byte_below x n (b at) in
    rw (drop_next l at 0 (omega arith), parts.0, parts.1, same_bytes size (at + 1) l b (omega arith))

-- ==== bounds

-- fewer digits to a base, a smaller bound
pub power_bound : (base k most n : ℕ) → 0 < base → k ≤ most → n < base ^ k → n < base ^ most
power_bound base k most n z h g = let p = pow-le-pow_right z h in omega arith
