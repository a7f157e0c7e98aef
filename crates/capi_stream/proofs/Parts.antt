-- Bytes in two parts. `parts-put`: both were lent, the first one first, and came back. `drop-take`: one within the other. Assumes nothing.
use mathlib.Core.Path.{◌≡◌, ap, ap₂, ◌∙◌}
use mathlib.Core.List.{List, ◌++◌, append-nil}
use Prim.Native.Nat.{ℕ, ◌+◌, ◌-◌, ◌≤◌}
use native.Mathlib.Omega.{arith}
use lib.ListN.{length, take, drop, length-drop, drop_of_length-le}
use lib.Seq.{length-take-le, take_at, drop_at, take-add}
use borrow.Rule.Slice.PartMut.{put_mid}

pub parts-put : (n : ℕ) (xs a b : List ℕ) → length a ≡ n → put_mid n (length (a ++ drop n xs) - n) (a ++ drop n xs) b ≡ a ++ b
parts-put n xs a b e =
    let all : List ℕ = a ++ drop n xs in
    let short : length (drop n all) ≤ length all - n = simp length-drop (omega arith) in
    ap₂ ◌++◌ (take_at a (drop n xs) n e) (ap (λ (x : List ℕ). b ++ x) (drop_of_length-le (drop n all) short) ∙ append-nil b)

pub drop-take : (n m : ℕ) (xs : List ℕ) → n ≤ length xs → drop n (take (n + m) xs) ≡ take m (drop n xs)
drop-take n m xs l = ap (drop n) (take-add n m xs) ∙ drop_at (take n xs) (take m (drop n xs)) n (length-take-le n xs l)
