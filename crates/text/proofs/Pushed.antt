-- Bytes that are stored behind a text, as many as fit.
use borrow.Rule.Slice.PartMut.{put_mid}
use Rattle.std.proofs.Common.{ℕ, List, ◌≡◌, ◌≤◌, ◌+◌, ◌-◌, ◌++◌, ◌∙◌, sym, ap, arith, length, take, min}
use Rattle.std.proofs.Math.Nat.{min-le_right}
use Rattle.std.proofs.Math.Seq.{take-append-add, length-take-le}
use Rattle.std.proofs.lemmas.List.{take_min}
use Rattle.std.proofs.lemmas.Slice.{take-put_mid}

fitting : (most size : ℕ) (bytes xs : List ℕ) → size ≤ most → length bytes ≡ most
    → take size bytes ++ take (min (most - size) (length xs)) xs ≡ take most (take size bytes ++ xs)
fitting most size bytes xs within sized =
    ap (λ (s : List ℕ). take size bytes ++ s) (take_min (most - size) xs)
    ∙ sym (take-append-add (take size bytes) xs (most - size))
    ∙ ap (λ (n : ℕ). take n (take size bytes ++ xs)) (omega (arith, length-take-le size bytes (omega arith)))

pub pushed : (most size k n : ℕ) (bytes xs part : List ℕ) → size ≤ most → length bytes ≡ most → k ≡ min (most - size) (length xs) → part ≡ take k xs
    → take (size + k) (put_mid size n bytes part) ≡ take most (take size bytes ++ xs)
pushed most size k n bytes xs part within sized e p =
    take-put_mid size n bytes part (size + k)
    (ap (λ (m : ℕ). size + m) (rw (p, e) (sym (length-take-le _ xs (min-le_right (most - size) (length xs))))))
    (omega arith)
    ∙ rw (p, e) (fitting most size bytes xs within sized)
