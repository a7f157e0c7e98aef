-- Bytes with zeros behind them. `padded-is`: bytes that read so are those. `padded-at`, `padded-word`: what is read of them does not depend on the zeros.
-- `padded-put`, `padded-store`: bytes stored behind them. `padded-front`, `padded-clear`: others in their place. Assumes nothing.
use mathlib.Core.Path.{◌≡◌, refl, sym, ap, ◌∙◌}
use mathlib.Core.List.{List, [], ◌∷◌, ◌++◌}
use Prim.Native.Nat.{ℕ, ◌+◌, ◌-◌, ◌<◌, ◌≤◌}
use native.Mathlib.Omega.{arith}
use native.Mathlib.Decide.{dec_le, ℕ_discrete}
use lib.ListN.{length, get_or, set, take, drop, replicate, length-append, length-set, length-drop, length-replicate, get_or-append, get_or-eq_default}
use lib.Seq.{ext_get_or, get_or-append-add, get_or-append_seam, get_or-set_same, get_or-set_other, get_or-drop, take-append_seam, take-append-le, drop-append-le}
use Rattle.isa.specs.Bytes.{word_at}
use Rattle.isa.proofs.Made.{all_same}
use Rattle.stream.specs.Body.{padded}

module _ (n : ℕ) (s : List ℕ) where
  pub padded-length : length s ≤ n → length (padded n s) ≡ n
  unfolding padded
  padded-length l = simp (length-append, length-replicate) (omega arith)

  pub padded-at : (i : ℕ) → get_or (padded n s) i 0 ≡ get_or s i 0
  unfolding padded
  padded-at i =
      elim (dec_le (length s) i) [
        | yes l ↦
            let e : i ≡ length s + (i - length s) = omega arith in
            ap (λ (k : ℕ). get_or (s ++ replicate (n - length s) 0) k 0) e ∙ get_or-append-add s _ (i - length s) 0 ∙ all_same 0 (n - length s) (i - length s)
            ∙ sym (get_or-eq_default s 0 l)
        | no l ↦ get_or-append s _ 0 i (omega arith)
      ]

  pub padded-word : (at : ℕ) → word_at (padded n s) at ≡ word_at s at
  unfolding word_at
  padded-word at = rw (padded-at at, padded-at (at + 1), padded-at (at + 2), padded-at (at + 3))

  -- n bytes that read so
  pub padded-is : (t : List ℕ) → length t ≡ n → length s ≤ n → ((i : ℕ) → i < n → get_or t i 0 ≡ get_or s i 0) → t ≡ padded n s
  padded-is t e l f = ext_get_or 0 t (padded n s) (e ∙ sym (padded-length l)) (λ i h. f i (omega arith) ∙ sym (padded-at i))

  pub padded-take : take (length s) (padded n s) ≡ s
  unfolding padded
  padded-take = take-append_seam s _

  pub padded-whole : length s ≡ n → padded n s ≡ s
  padded-whole e = sym (padded-is s e (omega arith) (λ i h. refl))

  pub padded-drop : (m i : ℕ) → length s ≤ m → get_or (drop m (padded n s)) i 0 ≡ 0
  padded-drop m i l = get_or-drop m (padded n s) i 0 ∙ padded-at (m + i) ∙ get_or-eq_default s 0 (omega arith)

-- a part of the bytes
pub part-padded : (n from k : ℕ) (s : List ℕ) → from + k ≤ length s → take k (drop from (padded n s)) ≡ take k (drop from s)
unfolding padded
part-padded n from k s l =
    ap (take k) (drop-append-le from s (replicate (n - length s) 0) (omega arith)) ∙ take-append-le k (drop from s) (replicate (n - length s) 0) (simp length-drop (omega arith))

pub padded-none : (n : ℕ) → replicate n 0 ≡ padded n []
padded-none n = padded-is n [] (replicate n 0) (length-replicate n 0) (omega arith) (λ i h. all_same 0 n i)

-- ---- a byte stored behind, and bytes in the place of others

pub padded-put : (n : ℕ) (s : List ℕ) (b : ℕ) → length s < n → set (padded n s) (length s) b ≡ padded n (s ++ (b ∷ []))
padded-put n s b l =
    padded-is n (s ++ (b ∷ [])) _ (length-set (padded n s) (length s) b ∙ padded-length n s (omega arith)) (simp length-append (omega arith))
    (λ i h. elim (ℕ_discrete i (length s)) [
      | yes e ↦
          ap (λ (k : ℕ). get_or (set (padded n s) (length s) b) k 0) e ∙ get_or-set_same (padded n s) (length s) b 0 (omega (arith, padded-length n s (omega arith)))
          ∙ sym (ap (λ (k : ℕ). get_or (s ++ (b ∷ [])) k 0) e ∙ get_or-append_seam s b [] 0)
      | no e ↦ get_or-set_other (padded n s) (length s) i b 0 e ∙ padded-at n s i ∙ other i e
    ])
  where
    other : (i : ℕ) → (i ≡ length s → ⊥) → get_or s i 0 ≡ get_or (s ++ (b ∷ [])) i 0
    other i e =
        elim (dec_le (length s) i) [
          | yes m ↦
              let size = length-append s (b ∷ []) in
              get_or-eq_default s 0 m ∙ sym (get_or-eq_default (s ++ (b ∷ [])) 0 (omega (arith, e)))
          | no m ↦ sym (get_or-append s (b ∷ []) 0 i (omega arith))
        ]

-- new bytes f in the place of the first bytes
module _ (n m : ℕ) (s f : List ℕ) (size : length f ≡ m) (room : m ≤ n) (l : length s ≤ m) where
  pub padded-front : f ++ drop m (padded n s) ≡ padded n f
  padded-front =
      let whole = padded-length n s (omega arith) in
      padded-is n f _ (simp (length-append, length-drop) (omega arith)) (omega arith) (λ i h. by_place i)
    where
      by_place : (i : ℕ) → get_or (f ++ drop m (padded n s)) i 0 ≡ get_or f i 0
      by_place i =
          elim (dec_le m i) [
            | yes q ↦
                let e : i ≡ length f + (i - m) = omega arith in
                ap (λ (k : ℕ). get_or (f ++ drop m (padded n s)) k 0) e ∙ get_or-append-add f _ (i - m) 0 ∙ padded-drop n s m (i - m) l
                ∙ sym (get_or-eq_default f 0 (omega arith))
            | no q ↦ get_or-append f _ 0 i (omega arith)
          ]

-- bytes stored behind
pub padded-store : (n m k : ℕ) (s p : List ℕ) → length s ≡ m → k ≡ m + length p → k ≤ n →
    take m (padded n s) ++ p ++ drop k (padded n s) ≡ padded n (s ++ p)
padded-store n m k s p e f l =
    let size : length s + length p ≡ k = omega arith in
    let front : take m (padded n s) ≡ s = ap (λ (i : ℕ). take i (padded n s)) (sym e) ∙ padded-take n s in
    ap (λ (u : List ℕ). u ++ p ++ drop k (padded n s)) front
    ∙ padded-front n k s (s ++ p) (length-append s p ∙ size) l (omega arith)

-- zeros in the place of all of them
pub padded-clear : (n m : ℕ) (s : List ℕ) → m ≤ n → length s ≤ m → replicate m 0 ++ drop m (padded n s) ≡ padded n []
padded-clear n m s room l =
    padded-front n m s (replicate m 0) (length-replicate m 0) room l
    ∙ sym (padded-is n (replicate m 0) (padded n []) (padded-length n [] (omega arith)) (simp length-replicate room) (λ i h. padded-at n [] i ∙ sym (all_same 0 m i)))
