-- A byte behind the bytes h of contents that go on: what it brings, and that the state behind it is kept. `count-lists`: it is one of the number of cases.
-- `number-lists`: the last of a number of an entry. `entry-lists`: another of an entry. `past-lists`: no stream leaves so many bytes. Assumes nothing.
use mathlib.Core.Path.{◌≡◌, refl, sym, ap, subst, ◌∙◌}
use mathlib.Core.List.{List, [], ◌∷◌}
use mathlib.Core.Bool.{Bool, true, false, ◌&&◌, ◌||◌}
use Prim.Native.Nat.{ℕ, zero, suc, ◌+◌, ◌*◌, ◌-◌, ◌/◌, ◌%◌, ◌<◌, ◌≤◌}
use native.Mathlib.Omega.{arith}
use native.Mathlib.Decide.{dec_le}
use lib.Dec.{leb, ltb, eqb}
use lib.ListN.{length, set, drop, replicate, length-append, length-drop, drop_of_length-le}
use lib.Seq.{take_all, drop-append-le}
use borrow.Author.Tests.{le-leb, lt-leb, lt-ltb, le-ltb, eq-eqb, ne_eqb}
use Rattle.isa.specs.Bytes.{word_at}
use Rattle.isa.specs.File.{legal}
use Rattle.isa.proofs.File.{cases}
use Rattle.replay.specs.Extent.{body_end}
use Rattle.trace.specs.Trace.{cases_of, length_at, count_at, start_at, contents_size, begins, field_allowed, number_allowed}
use Rattle.trace.specs.Stream.{due_of, Listing, live, then}
use Rattle.trace.specs.Returned.{EntryAllowed}
use Rattle.trace.specs.declared.types.Told.{Told}
use Rattle.trace.proofs.Contents.{contents-exact, cases-allowed, begins-short}
use Rattle.trace.proofs.Prefix.{word-append, word-drop, begins-append}
use Rattle.trace.proofs.Live.{listing-cases, listing-entry, quiet-listing, refused-listing, allowed-listing, on-listing, listed, number-ends}
use Rattle.stream.specs.Body.{padded}
use Rattle.stream.specs.Kept.{listing_marks, KeptListing, Kept, listing, within}
use Rattle.stream.specs.Contents.{pick_stepped, refused_on, listed_on, counted_on, count_on, extent_on, start_on, number_on}
use Rattle.stream.specs.Steps.{Steps, Lists}
use Rattle.stream.specs.declared.state.Marks.{Marks}
use Rattle.stream.specs.declared.state.Stepped.{Stepped}
use Rattle.stream.proofs.Padded.{padded-word, padded-none, padded-put}
use Rattle.stream.proofs.Begun.{body-starts}
use Rattle.trace.specs.declared.types.TraceRefusal.{TraceRefusal}
use Rattle.trace.specs.Stream.{End}
use Rattle.std.specs.Prelude.{Option, Some, None, Err}

-- ---- the tests of an entry, by the number that is whole

length-test : (a b : Bool) → ((a && true) || (b && false)) ≡ a
length-test true b = refl
length-test false true = refl
length-test false false = refl

count-test : (a b : Bool) → ((a && false) || (b && true)) ≡ b
count-test true true = refl
count-test true false = refl
count-test false true = refl
count-test false false = refl

start_test : (a b : Bool) → (a && (b && false)) ≡ false
start_test true true = refl
start_test true false = refl
start_test false b = refl

-- ---- what one byte brings, where `contents` is what is held behind it

module _ (h : List ℕ) (b : ℕ) (image contents : List ℕ) where
  abbrev new : List ℕ
  new = then h b

  abbrev Brings : Stepped → Type 0
  Brings r = Steps h (b ∷ []) r image contents

  longer : length new ≡ length h + 1
  longer = length-append h (b ∷ [])

  brings-same : (r s : Stepped) → r ≡ s → Brings s → Brings r
  brings-same r s e k = subst Brings (sym e) k

  brings-nothing : (m : Marks) → due_of new ≡ Told.Nothing → Kept image contents m (live new) → Brings (record { taken = 1; told = Told.Nothing; marks = m })
  brings-nothing m e k = record { quiet = λ j s l. absurd (omega arith); told = sym e; kept = k }

  brings-refusal : (e : End) → due_of new ≡ Told.Over e → Brings (refused_on e)
  brings-refusal e d = record { quiet = λ j s l. absurd (omega arith); told = sym d; kept = refl }

  module _ (v : Listing h) (empty : image ≡ padded 8192 []) (entries : contents ≡ padded 12288 (drop 4 new)) where
    -- the contents go on, and the number of cases is known
    goes_on : due_of new ≡ Told.Nothing → Listing new → 4 ≤ length new → (cases due at : ℕ) → cases ≡ cases_of new → due ≡ begins new ((length new - 4) / 12) →
        at ≡ length new → Brings (listed_on cases due at (padded 4 []))
    goes_on d w l cases due at e f g =
        brings-nothing _ d (listing new w (record { empty = empty; entries = entries; marks = rw (le-leb 4 (length new) l, e, f, g) }))

    -- the last byte of number i
    number_by : (i : ℕ) → length h ≡ 4 * i + 3 → (r : Stepped) → (number_allowed new i ≡ true → Brings r) →
        (number_allowed new i ≡ false → r ≡ refused_on (Err TraceRefusal.BadContents)) → Brings r
    number_by i place r f g =
        cases (number_allowed new i) f (λ e. brings-same r _ (g e) (brings-refusal (Err TraceRefusal.BadContents) (refused-listing h b i v place e)))

    -- ---- the number of cases

    count-more : length h < 3 → Brings (listed_on 0 0 (length h + 1) (padded 4 new))
    count-more l =
        let n = longer in
        let q = quiet-listing h (b ∷ []) v (omega arith) (omega arith) in
        brings-nothing _ q.0 (listing new q.1 (record { empty = empty; entries = entries; marks = rw (lt-leb 4 (length new) (omega arith), n) }))

    count-whole : length h ≡ 3 → Brings (counted_on (cases_of new))
    unfolding number_allowed begins
    count-whole l =
        let n = longer in
        let first : (length new - 4) / 12 ≡ 0 = omega arith in
        number_by 0 l _
        (λ e.
        let some = (cases-allowed new e).0 in
        rw e
        (goes_on (allowed-listing h b 0 v l e) (on-listing h b 0 v l e (omega arith)) (omega arith) _ _ 4 refl (rw first) (omega arith)))
        (λ e. rw e)

    count-brings : length h < 4 → Brings (count_on (length h) (padded 4 new))
    unfolding count_on
    count-brings few =
        elim (dec_le 3 (length h)) [
          | yes l ↦ rw (le-ltb (length h) 3 l, padded-word 4 new 0) (count-whole (omega arith))
          | no l ↦ rw (lt-ltb (length h) 3 (omega arith)) (count-more (omega arith))
        ]

    -- ---- an entry

    module _ (l : 4 ≤ length h) where
      abbrev known : ℕ
      known = cases_of h

      abbrev due : ℕ
      due = begins h ((length h - 4) / 12)

      known_is : known ≡ cases_of new
      known_is = sym (word-append h (b ∷ []) 0 l)

      due-is : (k : ℕ) → (length h - 4) / 12 ≡ k → due ≡ begins new k
      due-is k e = rw e (sym (begins-append h (b ∷ []) k (omega arith)))

      entry-brings : (length h % 4 ≡ 3 → ⊥) → Brings (listed_on known due (length h + 1) (padded 4 []))
      entry-brings more =
          let n = longer in
          let q = quiet-listing h (b ∷ []) v (omega arith) (omega (arith, more)) in
          goes_on q.0 q.1 (omega arith) _ _ _ known_is (due-is _ (omega (arith, more))) (sym n)

      -- number j of the entries is whole, one of case k
      module _ (j : ℕ) (place : length h ≡ 4 * j + 7) where
        abbrev k : ℕ
        k = j / 3

        last : length h ≡ 4 * suc j + 3
        last = omega arith

        word-is : (at n : ℕ) → n ≡ 4 + at → word_at contents at ≡ word_at new n
        word-is at n e = ap (λ (c : List ℕ). word_at c at) entries ∙ padded-word 12288 (drop 4 new) at ∙ sym (word-drop new 4 at n e)

        field_is : (f : ℕ) → j % 3 ≡ f → number_allowed new (suc j) ≡ field_allowed f new k
        unfolding number_allowed
        field_is f e = rw e

        -- a length or a word count
        short-brings : j % 3 < 2 →
            Brings (pick_stepped (number_allowed new (suc j)) (listed_on known due (length h + 1) (padded 4 [])) (refused_on (Err TraceRefusal.BadContents)))
        short-brings f =
            let n = longer in
            let there : k < cases_of new = omega (arith, number-ends h b (suc j) v last) in
            let same : (length new - 4) / 12 ≡ k = omega arith in
            number_by (suc j) last _
            (λ e.
            rw e
            (goes_on (allowed-listing h b (suc j) v last e) (on-listing h b (suc j) v last e (omega arith)) (omega arith) _ _ _ known_is
            (rw same (due-is k (omega arith))) (sym n)))
            (λ e. rw e)

        length-brings : j % 3 ≡ 0 → Brings (number_on contents known due (length h))
        unfolding number_on
        length-brings f =
            let column : (length h - 4) % 12 ≡ 3 = omega arith in
            let word = word-is (length h - 7) (4 + 12 * k) (omega arith) in
            rw (column, word, length-test (legal (length_at new k)) (leb (length_at new k) 4096), ← field_is 0 f) (short-brings (omega arith))

        words-brings : j % 3 ≡ 1 → Brings (number_on contents known due (length h))
        unfolding number_on
        words-brings f =
            let column : (length h - 4) % 12 ≡ 7 = omega arith in
            let word = word-is (length h - 7) (8 + 12 * k) (omega arith) in
            rw (column, word, count-test (legal (count_at new k)) (leb (count_at new k) 4096), ← field_is 1 f) (short-brings (omega arith))

        -- a start
        module _ (f : j % 3 ≡ 2) where
          abbrev end : Option ℕ
          end = body_end (length_at new k) (count_at new k) (start_at new k) (begins new k)

          in-range : (ltb 1024 known || ltb 0x400_0000 due) ≡ false
          in-range =
              let few = (listing-cases h v l).1 in
              let short = v.short in
              let small = begins-short h ((length h - 4) / 12) few (λ i m. listing-entry h v i (omega arith)) in
              rw (le-ltb 1024 known few, le-ltb 0x400_0000 due (omega arith))

          start_is : start_on contents known due (length h) (word_at contents (length h - 7)) ≡ extent_on end known (length h)
          unfolding start_on
          start_is =
              let a = word-is (length h - 15) (4 + 12 * k) (omega arith) in
              let c = word-is (length h - 11) (8 + 12 * k) (omega arith) in
              let s = word-is (length h - 7) (12 + 12 * k) (omega arith) in
              rw (in-range, a, c, s, due-is k (omega arith))

          end-allowed : EntryAllowed new k → end ≡ Some (begins new (suc k))
          unfolding body_end begins
          end-allowed e = rw (e.ok, le-leb (count_at new k) 4096 e.few, eq-eqb (start_at new k) (begins new k) e.start)

          end_refused : number_allowed new (suc j) ≡ false → end ≡ None
          unfolding body_end
          end_refused e = rw (sym (field_is 2 f) ∙ e, start_test (legal (length_at new k)) (leb (count_at new k) 4096))

          module _ (e : number_allowed new (suc j) ≡ true) where
            start-on : length new < contents_size new → Brings (extent_on end known (length h))
            start-on m =
                let n = longer in
                let w = on-listing h b (suc j) v last e m in
                let next : (length new - 4) / 12 ≡ suc k = omega arith in
                rw (end-allowed (listing-entry new w k (omega arith)), ne_eqb (length h + 1) (4 + 12 * known) (λ s. omega (arith, known_is)))
                (goes_on (allowed-listing h b (suc j) v last e) w (omega arith) _ _ _ known_is (rw next) (sym n))

            -- the contents are whole: no byte of a body has come
            start-opens : length new ≡ contents_size new → Brings (extent_on end known (length h))
            unfolding begins
            start-opens m =
                let n = longer in
                let w = listed h b (suc j) v last e m in
                let all : suc k ≡ cases_of new = omega arith in
                rw (
                  end-allowed (((contents-exact new).0 w.contents).entries k (omega arith)),
                  eq-eqb (length h + 1) (4 + 12 * known) (omega (arith, known_is)),
                )
                (brings-nothing _ (allowed-listing h b (suc j) v last e)
                (within new 0 w
                (record {
                  entries = entries ∙ ap (padded 12288) (sym (take_all (12 * cases_of new) (drop 4 new) (rw length-drop (omega arith))));
                  phase = refl;
                  cases = known_is;
                  case = refl;
                  due = ap (begins new) all;
                  body = rw (empty, drop_of_length-le new {i = contents_size new} (omega arith)) (body-starts (length_at new 0) (count_at new 0));
                })))

          start-brings : Brings (number_on contents known due (length h))
          unfolding number_on
          start-brings =
              let column : (length h - 4) % 12 ≡ 11 = omega arith in
              rw (column, start_is)
              (number_by (suc j) last _
              (λ e. elim (dec_le (contents_size new) (length new)) [
                | yes m ↦ start-opens e (omega (arith, number-ends h b (suc j) v last))
                | no m ↦ start-on e (omega arith)
              ])
              (λ e. rw (end_refused e)))

        field-brings : (f : ℕ) → j % 3 ≡ f → Brings (number_on contents known due (length h))
        field-brings zero e = length-brings e
        field-brings (suc zero) e = words-brings e
        field-brings (suc (suc f)) e = start-brings (omega arith)

      number-brings : length h % 4 ≡ 3 → Brings (number_on contents known due (length h))
      number-brings e = field-brings ((length h - 7) / 4) (omega arith) _ refl

-- ---- one byte is taken

picked-one : (t : Bool) (r s : Stepped) → r.taken ≡ 1 → s.taken ≡ 1 → (pick_stepped t r s).taken ≡ 1
picked-one true r s e f = e
picked-one false r s e f = f

extent-taken : (e : Option ℕ) (cases at : ℕ) → (extent_on e cases at).taken ≡ 1
extent-taken (Some place) cases at = picked-one (eqb (at + 1) (4 + 12 * cases)) _ _ refl refl
extent-taken None cases at = refl

count-taken : (at : ℕ) (held : List ℕ) → (count_on at held).taken ≡ 1
unfolding count_on
count-taken at held = picked-one (ltb at 3) _ _ refl (picked-one (leb 1 (word_at held 0) && leb (word_at held 0) 1024) _ _ refl refl)

start-taken : (contents : List ℕ) (cases due at start : ℕ) → (start_on contents cases due at start).taken ≡ 1
unfolding start_on
start-taken contents cases due at start =
    let e = body_end (word_at contents (at - 15)) (word_at contents (at - 11)) start due in
    picked-one (ltb 1024 cases || ltb 0x400_0000 due) (refused_on (Err TraceRefusal.BadContents)) (extent_on e cases at) refl (extent-taken e cases at)

number-taken : (contents : List ℕ) (cases due at : ℕ) → (number_on contents cases due at).taken ≡ 1
unfolding number_on
number-taken contents cases due at =
    let n = word_at contents (at - 7) in
    let t = (legal n && eqb ((at - 4) % 12) 3) || (leb n 4096 && eqb ((at - 4) % 12) 7) in
    picked-one (eqb ((at - 4) % 12) 11) _ (pick_stepped t (listed_on cases due (at + 1) (padded 4 [])) (refused_on (Err TraceRefusal.BadContents)))
    (start-taken contents cases due at n) (picked-one t _ _ refl refl)

-- ---- by the marks ahead of the byte

module _ (contents : List ℕ) (m : Marks) (b : ℕ) where
  -- what is held behind a byte of an entry
  abbrev stored : List ℕ
  stored = set contents (m.course.at - 4) b

  module _ (h image : List ℕ) (v : Listing h) (kept : KeptListing h image contents m) where
    at-is : m.course.at ≡ length h
    at-is = ap (λ (n : Marks). n.course.at) kept.marks

    count-behind : m.course.at < 4 → Brings h b image contents (count_on m.course.at (set m.course.held (m.course.at % 4) b))
    count-behind l =
        let few : length h < 4 = omega (arith, at-is) in
        let n = longer h b image contents in
        let place : length h % 4 ≡ length h = omega arith in
        let held : set (listing_marks h).course.held (length h % 4) b ≡ padded 4 (then h b) = rw (lt-leb 4 (length h) few, place) (padded-put 4 h b few) in
        let none = drop_of_length-le h {i = 4} (omega arith) ∙ sym (drop_of_length-le (then h b) {i = 4} (omega arith)) in
        rw (kept.marks, held) (count-brings h b image contents v kept.empty (kept.entries ∙ ap (padded 12288) none) few)

    past-never : 12292 ≤ m.course.at → ⊥
    past-never l = let at = at-is in omega (arith, v.short, (listing-cases h v (omega arith)).1)

    module _ (l : 4 ≤ m.course.at) where
      four : 4 ≤ length h
      four = omega (arith, at-is)

      stored_is : stored ≡ padded 12288 (drop 4 (then h b))
      stored_is =
          let n = length-drop 4 h in
          let room : length (drop 4 h) < 12288 = omega (arith, four, v.short, (listing-cases h v four).1) in
          (λ i. set (kept.entries i) (at-is i - 4) b) ∙ rw (← n) (padded-put 12288 (drop 4 h) b room)
          ∙ ap (padded 12288) (sym (drop-append-le 4 h (b ∷ []) four))

      cases-is : m.cases ≡ cases_of h
      cases-is = ap (λ (n : Marks). n.cases) kept.marks ∙ rw (le-leb 4 (length h) four)

      starts-at : m.due ≡ begins h ((length h - 4) / 12)
      starts-at = ap (λ (n : Marks). n.due) kept.marks ∙ rw (le-leb 4 (length h) four)

      number_behind : m.course.at % 4 ≡ 3 → Brings h b image stored (number_on stored m.cases m.due m.course.at)
      number_behind f =
          brings-same h b image stored _ _ (λ i. number_on stored (cases-is i) (starts-at i) (at-is i))
          (number-brings h b image stored v kept.empty stored_is four (rw (← at-is) f))

      entry-behind : (m.course.at % 4 ≡ 3 → ⊥) → Brings h b image stored (listed_on m.cases m.due (m.course.at + 1) (replicate 4 0))
      entry-behind f =
          brings-same h b image stored _ _ (λ i. listed_on (cases-is i) (starts-at i) (at-is i + 1) (padded-none 4 i))
          (entry-brings h b image stored v kept.empty stored_is four (rw (← at-is) f))

  module _ (r : Stepped) where
    abbrev OneTaken : List ℕ → Type 0
    OneTaken behind = (r.taken ≡ 1) × Lists contents m b r behind

    one-lists : (s : Stepped) (behind : List ℕ) → r ≡ s → s.taken ≡ 1 → Lists contents m b s behind → OneTaken behind
    one-lists s behind e t f = (ap (λ (x : Stepped). x.taken) e ∙ t, λ h image v kept. brings-same h b image behind r s e (f h image v kept))

    pub count-lists : m.course.at < 4 → r ≡ count_on m.course.at (set m.course.held (m.course.at % 4) b) → OneTaken contents
    count-lists l e = one-lists _ contents e (count-taken _ _) (λ h image v kept. count-behind h image v kept l)

    pub past-lists : 12292 ≤ m.course.at → r ≡ refused_on (Err TraceRefusal.BadContents) → OneTaken contents
    past-lists l e = one-lists _ contents e refl (λ h image v kept. absurd (past-never h image v kept l))

    module _ (l : 4 ≤ m.course.at) where
      pub number-lists : m.course.at % 4 ≡ 3 → r ≡ number_on stored m.cases m.due m.course.at → OneTaken stored
      number-lists f e = one-lists _ stored e (number-taken _ _ _ _) (λ h image v kept. number_behind h image v kept l f)

      pub entry-lists : (m.course.at % 4 ≡ 3 → ⊥) → r ≡ listed_on m.cases m.due (m.course.at + 1) (replicate 4 0) → OneTaken stored
      entry-lists f e = one-lists _ stored e refl (λ h image v kept. entry-behind h image v kept l f)
