-- What bytes of each part make of a body. `numbers-..`: a number. `words-stand`: words. `file-moves`, `left-moves-on`: bytes of the file before and after.
-- `held-..`: what is held of a number that is not whole. `ran-size`: the run leaves a whole file. Assumes nothing.
use mathlib.Core.Path.{◌≡◌, refl, sym, ap, ap₂, subst, ◌∙◌}
use mathlib.Core.List.{List, [], ◌∷◌, ◌++◌, append_assoc}
use mathlib.Core.Bool.{Bool, true, false, ◌&&◌, ◌||◌, true≢false}
use Prim.Native.Nat.{ℕ, ◌+◌, ◌*◌, ◌-◌, ◌/◌, ◌%◌, ◌<◌, ◌≤◌, min}
use native.Mathlib.Omega.{arith}
use native.Mathlib.Decide.{dec_le}
use lib.Dec.{leb, ltb}
use lib.ListN.{length, get_or, set, take, drop, length-append, length-take, length-drop, drop_of_length-le, take-append-drop}
use lib.Seq.{take_all, drop-append-le, drop-drop}
use borrow.Author.Tests.{leb-true, leb-false, ltb-true, le-leb, lt-leb, lt-ltb, le-ltb}
use Rattle.isa.specs.Bytes.{word_at, words_of}
use Rattle.isa.specs.Run.{Outcome, start}
use Rattle.isa.proofs.Bytes.{words-length}
use Rattle.isa.proofs.Fields.{and_left, and_right}
use Rattle.isa.proofs.File.{legal-exact, cases}
use Rattle.std.proofs.Math.Nat.{min-eq_left, min-eq_right}
use Rattle.isa.proofs.FileChecks.{check-passed}
use Rattle.isa.proofs.Going.{outcome-runs}
use Rattle.trace.specs.Verdict.{parts_of, is_flag, flag_of}
use Rattle.trace.proofs.Pieces.{run-kept}
use Rattle.stream.specs.Body.{padded, pick_bytes, before_in, ran_in, standing_in, in_file, held_in, Stands, InBody}
use Rattle.stream.specs.Steps.{standing_before, standing_after, standing_beside, Worked, worked, Allowed, NumberEnds, NumberByte, NumberStands, BytesMove}
use Rattle.stream.specs.declared.state.Standing.{Standing}
use Rattle.stream.specs.declared.state.Course.{Course}
use Rattle.stream.proofs.Padded.{padded-take, part-padded, padded-front, padded-put, padded-store, padded-whole}
use Rattle.stream.proofs.Ran.{file-early, standing-early, before-append, words-move, ran-partial, ran-behind}
use Rattle.stream.proofs.Said.{flag-moves, left-moves}

-- the bytes of a part that come: as many as it lacks, or all
pub least-of : (n have lack : ℕ) → n ≡ min have lack → (n ≤ lack) × (n ≤ have) × (0 < lack → 0 < have → 0 < n) × (lack % 4 ≡ 0 → have % 4 ≡ 0 → n % 4 ≡ 0)
least-of n have lack e = cases (leb have lack)
    (λ t. let q : n ≡ have = e ∙ min-eq_left (leb-true have lack t) in (omega (arith, leb-true have lack t), omega arith, λ a b. omega arith, λ a b. ap (λ k. k % 4) q ∙ b))
    (λ f. let l = leb-false have lack f in let q : n ≡ lack = e ∙ min-eq_right (omega arith) in (omega arith, omega arith, λ a b. omega arith, λ a b. ap (λ k. k % 4) q ∙ a))

-- ---- the run leaves a whole file

picked-length : (t : Bool) (words : List ℕ) → length words ≤ 4096 → length (pick_bytes t words []) ≤ 4096
picked-length true words l = l
picked-length false words l = omega arith

pub ran-size : (L W : ℕ) (b : List ℕ) → Allowed L W → 4 + 4 * L ≤ length b → length (ran_in L W b).file ≡ 4 * L
unfolding ran_in parts_of
ran-size L W b a l =
    let file : List ℕ = take (4 * L) (drop 4 b) in
    let words : List ℕ = pick_bytes (is_flag (before_in b)) (words_of (take (4 * W) (drop (4 + 4 * L) b))) [] in
    let size : length file ≡ 4 * L = simp (length-take, length-drop) (omega arith) in
    let few : length words ≤ 4096 = picked-length (is_flag (before_in b)) _ (simp (words-length, length-take) (omega (arith, a.few))) in
    let same = outcome-runs L file (flag_of (before_in b)) words (check-passed L (length file) a.ok size) few in
    ap (λ (o : Outcome). length o.file) (sym same) ∙ run-kept L words (start file (flag_of (before_in b))) size

-- ---- what is held of a number

module _ (L W : ℕ) (b : List ℕ) where
  none-held : (t : Bool) (s : List ℕ) → s ≡ [] → pick_bytes t [] s ≡ []
  none-held true s e = refl
  none-held false s e = e

  pub held_whole : length b % 4 ≡ 0 → held_in L W b ≡ []
  unfolding held_in
  held_whole e = none-held (in_file L W (length b)) _ (drop_of_length-le b {i = length b / 4 * 4} (omega arith))

  in-file : in_file L W (length b) ≡ true → held_in L W b ≡ []
  unfolding held_in
  in-file e = rw e

  pub held-before : 4 ≤ length b → length b ≤ 4 + 4 * L → held_in L W b ≡ []
  held-before l m =
      elim (dec_le (4 + 4 * L) (length b)) [
        | yes q ↦ held_whole (let e : length b ≡ 4 + 4 * L = omega arith in omega arith)
        | no q ↦ in-file (rw (le-leb 4 (length b) l, lt-ltb (length b) (4 + 4 * L) (omega arith)))
      ]

  or-true : (t : Bool) → (t || true) ≡ true
  or-true true = refl
  or-true false = refl

  pub held_after : 8 + 4 * L + 4 * W ≤ length b → held_in L W b ≡ []
  held_after l = in-file (rw (le-leb (8 + 4 * L + 4 * W) (length b) l) (or-true (leb 4 (length b) && ltb (length b) (4 + 4 * L))))

  pub held_number : NumberByte L W (length b) → held_in L W b ≡ drop (length b / 4 * 4) b
  unfolding held_in
  held_number n =
      elim (dec_le 4 (length b)) [
        | yes l ↦ rw (le-leb 4 (length b) l, le-ltb (length b) (4 + 4 * L) (n.part l), lt-leb (8 + 4 * L + 4 * W) (length b) n.most)
        | no l ↦ rw (lt-leb 4 (length b) (omega arith), lt-leb (8 + 4 * L + 4 * W) (length b) n.most)
      ]

-- ---- numbers and words

module _ (L W : ℕ) (a : Allowed L W) (image : List ℕ) (s : Standing) where
  pub stands-before : (b held : List ℕ) → length b + 4 ≡ 4 → length held ≡ 4 → Stands L W b image s →
      Stands L W (b ++ held) image (standing_before (word_at held 0))
  stands-before [] held e size st =
      let none : drop 4 [] ≡ drop 4 held = sym (drop_of_length-le held {i = 4} (omega arith)) in
      let before : before_in held ≡ word_at held 0 = rw (le-leb 4 (length held) (omega arith)) in
      record {
        file = st.file ∙ ap (padded 8192) (file-early L W [] (omega arith) ∙ ap (take (4 * L)) none ∙ sym (file-early L W held (omega arith)));
        standing = sym (standing-early L W held (omega arith) ∙ ap standing_before before);
      }
  stands-before (x ∷ b) held e size st = absurd (omega arith)

  pub stands_after : (b held : List ℕ) → length b ≡ 4 + 4 * L + 4 * W → length held ≡ 4 → Stands L W b image s →
      Stands L W (b ++ held) image (standing_after s (word_at held 0))
  stands_after b held here size st = record {
    file = st.file ∙ ap (λ (o : Outcome). padded 8192 o.file) (sym (ran-behind L W b held (omega arith)));
    standing = ap (λ (s : Standing). standing_after s (word_at held 0)) st.standing ∙ sym (flag-moves L W b held a.ok a.few here size);
  }

  module _ (b p : List ℕ) (l : 4 + 4 * L ≤ length b) (room : length b + length p ≤ 4 + 4 * L + 4 * W) (whole : length b % 4 ≡ 0) (st : Stands L W b image s) where
    -- the file is the first part of the image
    pub file-here : take (4 * L) image ≡ (ran_in L W b).file
    file-here =
        ap₂ take (sym (ran-size L W b a l)) st.file ∙ padded-take 8192 (ran_in L W b).file

    pub words-stand : (done : ℕ) → done ≡ (length b - (4 + 4 * L)) / 4 → (r : Standing) (f : List ℕ) →
        record { standing = r; file = f } ≡ worked L done s (take (4 * L) image) p → Stands L W (b ++ p) (f ++ drop (4 * L) image) r
    words-stand done e r f w =
        let longer = length-append b p in
        let same : ◌≡◌ {A = Worked} (record { standing = r; file = f }) (record { standing = standing_in L W (b ++ p); file = (ran_in L W (b ++ p)).file }) =
        w ∙ (λ i. worked L (e i) (st.standing i) (file-here i) p) ∙ sym (words-move L W b p l room a.ok a.few whole) in
        let left : f ≡ (ran_in L W (b ++ p)).file = ap (λ (x : Worked). x.file) same in
        let size : length f ≡ 4 * L = ap length left ∙ ran-size L W (b ++ p) a (omega arith) in
        let most = ((legal-exact L).0 a.ok).most in
        record {
          file = ap (λ (u : List ℕ). f ++ drop (4 * L) u) st.file
              ∙ padded-front 8192 (4 * L) (ran_in L W b).file f size (omega arith) (omega (arith, ran-size L W b a l)) ∙ ap (padded 8192) left;
          standing = ap (λ (x : Worked). x.standing) same;
        }

-- the number with whose last byte the body has `at` bytes
module _ (L W : ℕ) (a : Allowed L W) (image held : List ℕ) (s : Standing) (size : length held ≡ 4) (at : ℕ) (r : Standing) where
  pub number-before : at ≡ 4 → (n : ℕ) → n ≡ word_at held 0 → r ≡ standing_before n → NumberStands L W at held image s image r
  number-before e n f h b l st = rw (h, f) (stands-before L W a image s b held (omega arith) size st)

  pub number-after : at ≡ 8 + 4 * L + 4 * W → (n : ℕ) → n ≡ word_at held 0 → r ≡ standing_after s n → NumberStands L W at held image s image r
  number-after e n f h b l st = rw (h, f) (stands_after L W a image s b held (omega arith) size st)

  pub number_word : NumberEnds L W at → 8 + 4 * L ≤ at → at ≤ 4 + 4 * L + 4 * W → (done n : ℕ) → done ≡ (at - (4 + 4 * L) - 4) / 4 → n ≡ 4 * L →
      (f : List ℕ) → record { standing = r; file = f } ≡ worked L done s (take n image) held → NumberStands L W at held image s (f ++ drop n image) r
  number_word ends l m done n e g f w b here st =
      rw g
      (words-stand L W a image s b held (omega arith) (omega arith) (omega (arith, ends.whole)) st done (e ∙ (let d : (at - (4 + 4 * L) - 4) / 4 ≡ (length b - (4 + 4 * L)) / 4 = omega arith in d)) r f (rw g at w))

-- ---- bytes of each part

module _ (L W : ℕ) (b p image : List ℕ) (c : Course) (i : InBody L W b image c) where
  -- the file before
  module _ (l : 4 ≤ length b) (room : length b + length p ≤ 4 + 4 * L) (short : L ≤ 2048) where
    file-so-far : (ran_in L W b).file ≡ drop 4 b
    file-so-far = file-early L W b (omega arith) ∙ take_all (4 * L) (drop 4 b) (simp length-drop (omega arith))

    file-then : (ran_in L W (b ++ p)).file ≡ drop 4 b ++ p
    file-then =
        let longer = length-append b p in
        file-early L W (b ++ p) (omega arith) ∙ ap (take (4 * L)) (drop-append-le 4 b p l)
        ∙ take_all (4 * L) (drop 4 b ++ p) (simp (length-append, length-drop) (omega arith))

    pub file-moves : (from to : ℕ) → from ≡ length b - 4 → to ≡ length b - 4 + length p →
        InBody L W (b ++ p) (take from image ++ p ++ drop to image) (record { at = length b + length p; held = c.held; standing = c.standing })
    file-moves from to e f =
        let longer = length-append b p in
        let size = length-drop 4 b in
        record {
          at = sym longer;
          held = i.held ∙ ap (padded 4) (held-before L W b l (omega arith) ∙ sym (held-before L W (b ++ p) (omega arith) (omega arith)));
          stands = record {
            file = ap (λ (u : List ℕ). take from u ++ p ++ drop to u) (i.stands.file ∙ ap (padded 8192) file-so-far)
                ∙ padded-store 8192 from to (drop 4 b) p (omega arith) (omega arith) (omega arith) ∙ ap (padded 8192) (sym file-then);
            standing = i.stands.standing ∙ standing-early L W b (omega arith) ∙ ap standing_before (sym (before-append b p l))
                ∙ sym (standing-early L W (b ++ p) (omega arith));
          };
        }

  -- words
  pub words-in : Allowed L W → 4 + 4 * L ≤ length b → length b + length p ≤ 4 + 4 * L + 4 * W → length b % 4 ≡ 0 → length p % 4 ≡ 0 →
      (image' : List ℕ) (r : Standing) → Stands L W (b ++ p) image' r →
      InBody L W (b ++ p) image' (record { at = length b + length p; held = c.held; standing = r })
  words-in a l room whole whole' image' r st =
      let longer = length-append b p in
      record {
        at = sym longer;
        held = i.held ∙ ap (padded 4) (held_whole L W b whole ∙ sym (held_whole L W (b ++ p) (omega arith)));
        stands = st;
      }

  -- the file after
  pub left_in : Allowed L W → (from : ℕ) → length b ≡ 8 + 4 * L + 4 * W + from → from + length p ≤ 4 * L →
      InBody L W (b ++ p) image (record { at = length b + length p; held = c.held; standing = standing_beside c.standing from (take (length p) (drop from image)) p })
  left_in a from e room =
      let longer = length-append b p in
      let n : length b - (8 + 4 * L + 4 * W) ≡ from = omega arith in
      let place = sym n in
      let whole = ran-size L W b a (omega arith) in
      let f : List ℕ = (ran_in L W b).file in
      let beside : take (length p) (drop from image) ≡ take (length p) (drop (length b - (8 + 4 * L + 4 * W)) f) =
      ap (λ (u : List ℕ). take (length p) (drop from u)) i.stands.file ∙ part-padded 8192 from (length p) f (omega arith)
      ∙ ap (λ (k : ℕ). take (length p) (drop k f)) (sym n) in
      record {
        at = sym longer;
        held = i.held ∙ ap (padded 4) (held_after L W b (omega arith) ∙ sym (held_after L W (b ++ p) (omega arith)));
        stands = record {
          file = i.stands.file ∙ ap (λ (o : Outcome). padded 8192 o.file) (sym (ran-behind L W b p (omega arith)));
          standing = (λ j. standing_beside (i.stands.standing j) (place j) (beside j) p)
              ∙ sym (left-moves L W b p a.ok a.few (omega arith) (omega arith) whole);
        };
      }

-- ---- one byte of a number

module _ (L W : ℕ) (b image : List ℕ) (c : Course) (i : InBody L W b image c) (n : NumberByte L W (length b)) (x : ℕ) where
  -- the body in whole numbers, and what is held
  abbrev wholes : ℕ
  wholes = length b / 4 * 4

  abbrev front : List ℕ
  front = take wholes b

  abbrev rest : List ℕ
  rest = drop wholes b

  front-size : length front ≡ wholes
  front-size = simp length-take (omega arith)

  rest-size : length rest ≡ length b % 4
  rest-size = simp length-drop (omega arith)

  front-number : NumberByte L W (length front)
  front-number =
      let size = front-size in
      record { part = (λ l. let m = n.part (omega arith) in omega arith); most = omega (arith, n.most) }

  split : b ≡ front ++ rest
  split = sym (take-append-drop wholes b)

  then-split : b ++ (x ∷ []) ≡ front ++ (rest ++ (x ∷ []))
  then-split = ap (λ (u : List ℕ). u ++ (x ∷ [])) split ∙ append_assoc front rest (x ∷ [])

  -- of the numbers that are whole as much is kept as of all bytes
  front-stands : Stands L W front image c.standing
  front-stands =
      let less = ran-partial L W front rest (let e = front-size in omega arith) (let e = rest-size in omega arith) front-number in
      let st : Stands L W (front ++ rest) image c.standing = subst (λ (u : List ℕ). Stands L W u image c.standing) split i.stands in
      record { file = st.file ∙ ap (padded 8192) less.file; standing = st.standing ∙ less.standing }

  pub held_then : set c.held (length b % 4) x ≡ padded 4 (rest ++ (x ∷ []))
  held_then =
      let size = rest-size in
      ap₂ (λ (u : List ℕ) (k : ℕ). set u k x) (i.held ∙ ap (padded 4) (held_number L W b n)) (sym size) ∙ padded-put 4 rest x (omega arith)

  -- the number is not whole yet
  pub number-on : (length b % 4 ≡ 3 → ⊥) → InBody L W (b ++ (x ∷ [])) image (record { at = length b + 1; held = set c.held (length b % 4) x; standing = c.standing })
  number-on ne =
      let longer = length-append b (x ∷ []) in
      let size = rest-size in
      let more : length (rest ++ (x ∷ [])) ≡ length b % 4 + 1 = length-append rest (x ∷ []) ∙ ap (λ (k : ℕ). k + 1) size in
      let less = ran-partial L W front (rest ++ (x ∷ [])) (let e = front-size in omega arith) (omega (arith, ne)) front-number in
      let next : NumberByte L W (length (b ++ (x ∷ []))) =
      record { part = (λ l. let m = n.part (omega (arith, ne)) in omega arith); most = omega (arith, n.most, ne) } in
      let same : length (b ++ (x ∷ [])) / 4 * 4 ≡ wholes = omega (arith, ne) in
      record {
        at = sym longer;
        held = held_then
            ∙ ap (padded 4) (sym (held_number L W (b ++ (x ∷ [])) next ∙ ap (λ (k : ℕ). drop k (b ++ (x ∷ []))) same ∙ drop-append-le wholes b (x ∷ []) (omega arith)));
        stands = subst (λ (u : List ℕ). Stands L W u image c.standing) (sym then-split)
            (record { file = front-stands.file ∙ ap (padded 8192) (sym less.file); standing = front-stands.standing ∙ sym less.standing });
      }

  -- it is whole
  module _ (e : length b % 4 ≡ 3) where
    pub number-held : set c.held (length b % 4) x ≡ rest ++ (x ∷ [])
    number-held =
        let size = rest-size in
        held_then ∙ padded-whole 4 (rest ++ (x ∷ [])) (length-append rest (x ∷ []) ∙ omega arith)

    pub number-whole : (image' : List ℕ) (r : Standing) → NumberStands L W (length b + 1) (set c.held (length b % 4) x) image c.standing image' r →
        (zeros : List ℕ) → zeros ≡ padded 4 [] → InBody L W (b ++ (x ∷ [])) image' (record { at = length b + 1; held = zeros; standing = r })
    number-whole image' r f zeros z =
        let longer = length-append b (x ∷ []) in
        let st : Stands L W (front ++ set c.held (length b % 4) x) image' r = f front (let s = front-size in omega arith) front-stands in
        record {
          at = sym longer;
          held = z ∙ ap (padded 4) (sym (held_whole L W (b ++ (x ∷ [])) (omega arith)));
          stands = subst (λ (u : List ℕ). Stands L W u image' r) (ap (λ (u : List ℕ). front ++ u) number-held ∙ sym then-split) st;
        }

-- ---- the same by the course

pub ends-past : (L W at : ℕ) → NumberEnds L W at → (at ≡ 4 → ⊥) → 8 + 4 * L ≤ at
ends-past L W at n ne = n.part (omega (arith, n.some, ne))

pub ends_next : (L W at : ℕ) → NumberByte L W at → at % 4 ≡ 3 → NumberEnds L W (at + 1)
ends_next L W at n e = record {
  whole = omega arith;
  some = omega arith;
  part = λ l. let m = n.part (omega arith) in omega arith;
  most = omega (arith, n.most);
}

module _ (L W : ℕ) (image : List ℕ) (c : Course) where
  module _ (x : ℕ) (n : NumberByte L W c.at) (held : List ℕ) (h : held ≡ set c.held (c.at % 4) x) where
    pub byte-on : (c.at % 4 ≡ 3 → ⊥) → BytesMove L W (x ∷ []) image c image (record { at = c.at + 1; held = held; standing = c.standing })
    byte-on ne b i = rw (h, i.at) (number-on L W b image c i (rw i.at at n) x (rw i.at at ne))

    pub byte-whole : c.at % 4 ≡ 3 → (image' : List ℕ) (r : Standing) → NumberStands L W (c.at + 1) held image c.standing image' r → (zeros : List ℕ) →
        zeros ≡ padded 4 [] → BytesMove L W (x ∷ []) image c image' (record { at = c.at + 1; held = zeros; standing = r })
    byte-whole e image' r f zeros z b i =
        rw i.at (number-whole L W b image c i (rw i.at at n) x (rw i.at at e) image' r (rw (h, i.at) at f) zeros z)

  module _ (p : List ℕ) where
    -- p in the place of the n bytes from `from` on
    pub file-bytes : 4 ≤ c.at → c.at + length p ≤ 4 + 4 * L → L ≤ 2048 → (from n : ℕ) → from ≡ c.at - 4 → n ≡ length p →
        BytesMove L W p image c (take from image ++ (p ++ drop n (drop from image))) (record { at = c.at + length p; held = c.held; standing = c.standing })
    file-bytes l room short from n e f b i =
        let same = i.at in
        let put : take from image ++ (p ++ drop n (drop from image)) ≡ take from image ++ p ++ drop (from + n) image =
        ap (λ (u : List ℕ). take from image ++ (p ++ u)) (drop-drop n from image) ∙ sym (append_assoc (take from image) p (drop (from + n) image)) in
        rw (put, i.at) (file-moves L W b p image c i (omega arith) (omega arith) short from (from + n) (omega arith) (omega arith))

    pub word_bytes : Allowed L W → 4 + 4 * L ≤ c.at → c.at + length p ≤ 4 + 4 * L + 4 * W → c.at % 4 ≡ 0 → length p % 4 ≡ 0 → (done n : ℕ) →
        done ≡ (c.at - (4 + 4 * L)) / 4 → n ≡ 4 * L → (r : Standing) (f : List ℕ) →
        record { standing = r; file = f } ≡ worked L done c.standing (take n image) p →
        BytesMove L W p image c (f ++ drop n image) (record { at = c.at + length p; held = c.held; standing = r })
    word_bytes a l room whole whole' done n e g r f w b i =
        let same = i.at in
        let st = words-stand L W a image c.standing b p (omega arith) (omega arith) (omega arith) i.stands done (rw i.at at e) r f (rw g at w) in
        rw (i.at, g) (words-in L W b p image c i a (omega arith) (omega arith) (omega arith) whole' (f ++ drop (4 * L) image) r st)

    pub left-bytes : Allowed L W → (from : ℕ) → c.at ≡ 8 + 4 * L + 4 * W + from → from + length p ≤ 4 * L → (r : Standing) →
        r ≡ standing_beside c.standing from (take (length p) (drop from image)) p →
        BytesMove L W p image c image (record { at = c.at + length p; held = c.held; standing = r })
    left-bytes a from e room r h b i = let same = i.at in rw (h, i.at) (left_in L W b p image c i a from (omega arith) room)

-- ---- which part comes next

pub in-file-before : (at words : ℕ) → (leb 4 at && ltb at words) ≡ true → (4 ≤ at) × (at < words)
in-file-before at words e = (leb-true 4 at (and_left (leb 4 at) (ltb at words) e), ltb-true at words (and_right (leb 4 at) (ltb at words) e))

pub number-part : (L W at words : ℕ) → words ≡ 4 + 4 * L → (leb 4 at && ltb at words) ≡ false → at < 8 + 4 * L + 4 * W → NumberByte L W at
number-part L W at words e none l =
    record {
      part = λ m. elim (dec_le words at) [
        | yes q ↦ omega arith
        | no q ↦ absurd (true≢false (sym (both m (omega arith)) ∙ none))
      ];
      most = l;
    }
  where
    both : 4 ≤ at → at < words → (leb 4 at && ltb at words) ≡ true
    both m q = rw (le-leb 4 at m, lt-ltb at words q)

-- one byte is the first
pub one_byte : (L W : ℕ) (bytes image : List ℕ) (c : Course) (image' : List ℕ) (c' : Course) → 0 < length bytes →
    BytesMove L W (get_or bytes 0 0 ∷ []) image c image' c' → BytesMove L W (take 1 bytes) image c image' c'
one_byte L W [] image c image' c' l m = absurd (omega arith)
one_byte L W (x ∷ bytes) image c image' c' l m = m
