-- No line is longer than the longest that is stated, by a sum over each template that is computed. Assumes nothing.
use Prim.Native.Nat.{ℕ, zero, suc, ◌+◌, ◌≤◌, max}
use mathlib.Core.Path.{◌≡◌, refl}
use mathlib.Core.Bool.{Bool, true, ◌&&◌}
use mathlib.Core.List.{List, [], ◌∷◌}
use native.Mathlib.Omega.{arith}
use borrow.Author.Tests.{leb-true}
use lib.Dec.{leb}
use lib.ListN.{length, get_or, length-append}
use Rattle.isa.specs.declared.types.Op.{Op}
use Rattle.grammar.specs.Template.{Item, byte, var, Choices, numbers, texts, Variables, decimal, text_of, fill}
use Rattle.grammar.specs.Grammar.{alphabet, unused, variables, templates, pattern_of, values_of, line_max, line_of}
use Rattle.grammar.proofs.Guess.{and-true}

abbrev longest_text : List (List ℕ) → ℕ
longest_text [] = 0
longest_text (w ∷ ws) = max (length w) (longest_text ws)

abbrev longest_number : List ℕ → ℕ
longest_number [] = 1
longest_number (n ∷ ns) = max (length (decimal n)) (longest_number ns)

abbrev width : Choices → ℕ
width (numbers ns) = longest_number ns
width (texts ws) = longest_text ws

number-width : (ns : List ℕ) (v : ℕ) → length (decimal (get_or ns v 0)) ≤ longest_number ns
unfolding decimal
number-width [] v = omega arith
number-width (n ∷ ns) zero = omega arith
number-width (n ∷ ns) (suc v) = omega (arith, number-width ns v)

listed-width : (ws : List (List ℕ)) (v : ℕ) → length (get_or ws v []) ≤ longest_text ws
listed-width [] v = omega arith
listed-width (w ∷ ws) zero = omega arith
listed-width (w ∷ ws) (suc v) = omega (arith, listed-width ws v)

text-width : (k : Choices) (v : ℕ) → length (text_of k v) ≤ width k
text-width (numbers ns) v = number-width ns v
text-width (texts ws) v = listed-width ws v

abbrev narrow_all : List Choices → Bool
narrow_all [] = true
narrow_all (k ∷ ks) = leb (width k) 3 && narrow_all ks

narrow_at : (ks : List Choices) (x v : ℕ) → narrow_all ks ≡ true → length (text_of (get_or ks x unused) v) ≤ 3
unfolding decimal
narrow_at [] x v h = omega (arith, text-width unused v)
narrow_at (k ∷ ks) zero v h = omega (arith, text-width k v, leb-true (width k) 3 (and-true (leb (width k) 3) (narrow_all ks) h).0)
narrow_at (k ∷ ks) (suc x) v h = narrow_at ks x v (and-true (leb (width k) 3) (narrow_all ks) h).1

-- a letter's text has at most three bytes
pub letter-short : (x v : ℕ) → length (text_of (get_or alphabet x unused) v) ≤ 3
unfolding decimal
letter-short x v = narrow_at alphabet x v refl

abbrev width_of : Variables → List Item → ℕ
width_of vs [] = 0
width_of vs (byte b ∷ t) = suc (width_of vs t)
width_of vs (var x ∷ t) = width (vs.choices x) + width_of vs t

fill-width : (vs : Variables) (t : List Item) (e : ℕ → ℕ) → length (fill vs t e) ≤ width_of vs t
fill-width vs [] e = omega arith
fill-width vs (byte b ∷ t) e = omega (arith, fill-width vs t e)
fill-width vs (var x ∷ t) e =
    omega (arith, length-append (text_of (vs.choices x) (e (vs.slot x))) (fill vs t e), text-width (vs.choices x) (e (vs.slot x)), fill-width vs t e)

abbrev within : Variables → ℕ → List (List Item) → Bool
within vs n [] = true
within vs n (t ∷ ts) = leb (width_of vs t) n && within vs n ts

within-at : (vs : Variables) (n : ℕ) (ts : List (List Item)) (p : ℕ) (e : ℕ → ℕ) → within vs n ts ≡ true → length (fill vs (get_or ts p []) e) ≤ n
within-at vs n [] p e h = omega arith
within-at vs n (t ∷ ts) zero e h = omega (arith, fill-width vs t e, leb-true (width_of vs t) n (and-true (leb (width_of vs t) n) (within vs n ts) h).0)
within-at vs n (t ∷ ts) (suc p) e h = within-at vs n ts p e (and-true (leb (width_of vs t) n) (within vs n ts) h).1

pub pattern-short : (p : ℕ) (e : ℕ → ℕ) → length (fill variables (get_or templates p []) e) ≤ line_max
unfolding variables decimal
pattern-short p e = within-at variables line_max templates p e refl

pub line-short : (op : Op) → length (line_of op) ≤ line_max
unfolding line_of
line-short op = pattern-short (pattern_of op) (values_of op)
