-- A buffer with a text in it: with no text, with one text after another, and what a function that puts one leaves.
use mathlib.Core.Path.{◌≡◌, refl, sym, ap, ◌∙◌}
use mathlib.Core.List.{List, [], ◌++◌, append_assoc, append-nil}
use Prim.Native.Nat.{ℕ, ◌+◌, ◌≤◌, ◌<◌}
use native.Mathlib.Nat.{add-zero, add_assoc, zero-add}
use native.Mathlib.Numerals.{add-one}
use native.Mathlib.Omega.{arith}
use lib.ListN.{length, get_or, set, take, drop, length-append, length-drop, take-append-drop}
use lib.Seq.{length-take-le, take_at, drop-append-add, drop-drop, paste, paste-zero, paste-suc, length-paste, take-length}
use Rattle.listing.specs.Call.{with_text, Wrote}

pub with_none : (out : List ℕ) (at : ℕ) → out ≡ with_text out at []
unfolding with_text
with_none out at = sym (simp (add-zero, append-nil, take-append-drop))

-- what stands before a text's end
front_length : (out : List ℕ) (at : ℕ) (a : List ℕ) → at ≤ length out → length (take at out ++ a) ≡ at + length a
front_length out at a h = length-append (take at out) a ∙ ap (λ (k : ℕ). k + length a) (length-take-le at out h)

pub with-then : (out : List ℕ) (at : ℕ) (a b : List ℕ) → at + length a + length b ≤ length out → with_text (with_text out at a) (at + length a) b ≡ with_text out at (a ++ b)
unfolding with_text
with-then out at a b h =
    let front : List ℕ = take at out ++ a in
    let rest : List ℕ = drop (at + length a) out in
    let sized : length front ≡ at + length a = front_length out at a (omega arith) in
    ap (λ (s : List ℕ). s ++ b ++ drop (at + length a + length b) (front ++ rest)) (take_at front rest (at + length a) sized)
    ∙ ap (λ (s : List ℕ). front ++ b ++ s)
    (ap (λ (k : ℕ). drop (k + length b) (front ++ rest)) (sym sized)
    ∙ drop-append-add front rest (length b)
    ∙ drop-drop (length b) (at + length a) out)
    ∙ ap (λ (s : List ℕ). s ++ drop (at + length a + length b) out) (append_assoc (take at out) a b)
    ∙ ap (λ (k : ℕ). take at out ++ (a ++ b) ++ drop k out) (add_assoc at (length a) (length b) ∙ ap (λ (k : ℕ). at + k) (sym (length-append a b)))

pub length-with : (out : List ℕ) (at : ℕ) (a : List ℕ) → at + length a ≤ length out → length (with_text out at a) ≡ length out
unfolding with_text
length-with out at a h =
    length-append (take at out ++ a) (drop (at + length a) out)
    ∙ ap (λ (k : ℕ). k + length (drop (at + length a) out)) (front_length out at a (omega arith))
    ∙ ap (λ (k : ℕ). at + length a + k) (length-drop (at + length a) out)
    ∙ omega arith

-- at the buffer's start
pub with-start : (out text : List ℕ) → with_text out 0 text ≡ text ++ drop (length text) out
unfolding with_text
with-start out text = ap (λ (k : ℕ). text ++ drop k out) (zero-add (length text))

pub wrote_none : (out : List ℕ) (at : ℕ) → Wrote out at [] at out
wrote_none out at = record { past = sym (add-zero at); held = with_none out at }

pub wrote_then : {out : List ℕ} {at : ℕ} {a : List ℕ} {n : ℕ} {out₁ : List ℕ} {b : List ℕ} {m : ℕ} {out₂ : List ℕ}
    → Wrote out at a n out₁ → Wrote out₁ n b m out₂ → at + length a + length b ≤ length out → Wrote out at (a ++ b) m out₂
wrote_then {out} {at} {a} {n} {out₁} {b} {m} {out₂} w v h =
    record {
      past = v.past ∙ ap (λ (k : ℕ). k + length b) w.past ∙ add_assoc at (length a) (length b) ∙ ap (λ (k : ℕ). at + k) (sym (length-append a b));
      held =
          v.held
          ∙ ap (λ (s : List ℕ). with_text s n b) w.held
          ∙ ap (λ (k : ℕ). with_text (with_text out at a) k b) w.past
          ∙ with-then out at a b h;
    }

pub wrote-length : {out : List ℕ} {at : ℕ} {a : List ℕ} {n : ℕ} {out₁ : List ℕ} → Wrote out at a n out₁ → at + length a ≤ length out → length out₁ ≡ length out
wrote-length {out} {at} {a} w h = ap length w.held ∙ length-with out at a h

-- the loop that copies a text: so many of its bytes are in place
pub record Copying (out₀ : List ℕ) (at : ℕ) (text out : List ℕ) (i : ℕ) : Type 0 where
  pub within : i ≤ length text
  pub sized : length out ≡ length out₀
  pub held : out ≡ paste out₀ at text i

pub copying-starts : (out : List ℕ) (at : ℕ) (text : List ℕ) → Copying out at text out 0
copying-starts out at text = record { within = omega arith; sized = refl; held = paste-zero out at text }

pub copying-on : {out₀ : List ℕ} {at : ℕ} {text out : List ℕ} {i : ℕ} → Copying out₀ at text out i → i < length text → at + length text ≤ length out₀
    → Copying out₀ at text (set out (at + i) (get_or text i 0)) (i + 1)
copying-on {out₀} {at} {text} {out} {i} p h r =
    let e : set out (at + i) (get_or text i 0) ≡ paste out₀ at text (i + 1) =
    ap (λ (s : List ℕ). set s (at + i) (get_or text i 0)) p.held
    ∙ paste-suc out₀ at text i 0 (omega arith) h
    ∙ ap (paste out₀ at text) (sym (add-one i)) in
    record { within = omega arith; sized = ap length e ∙ length-paste out₀ at text (i + 1) (omega arith) (omega arith); held = e }

pub copying-ends : {out₀ : List ℕ} {at : ℕ} {text out : List ℕ} {i : ℕ} → Copying out₀ at text out i → length text ≤ i → Wrote out₀ at text (at + length text) out
unfolding with_text
copying-ends {out₀} {at} {text} {out} {i} p h =
    let e : i ≡ length text = omega arith in
    record {
      past = refl;
      held =
          p.held
          ∙ ap (paste out₀ at text) e
          ∙ ap (λ (s : List ℕ). take at out₀ ++ s ++ drop (at + length text) out₀) (take-length text);
    }
