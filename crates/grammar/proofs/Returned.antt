-- Each number, with what stands beside it, is returned exactly when request A1's line holds and no earlier check fails: `read-exact`, `write-exact`.
-- Assumes nothing.
use Prim.Native.Nat.{ℕ}
use mathlib.Core.Path.{◌≡◌, refl, subst}
use mathlib.Core.Logic.{◌↔◌}
use mathlib.Core.Bool.{Bool, true, false}
use mathlib.Core.List.{List}
use borrow.Author.Tests.{le-leb, lt-leb, leb-true, leb-false}
use lib.Dec.{leb}
use lib.ListN.{length}
use Rattle.isa.specs.declared.types.Op.{Op}
use Rattle.isa.specs.Encode.{answer, write_checks, encode_of}
use Rattle.std.specs.Prelude.{Result, Ok, Err}
use Rattle.grammar.specs.declared.types.NotLine.{NotLine}
use Rattle.grammar.specs.Grammar.{line_of}
use Rattle.grammar.specs.Read.{read_of}
use Rattle.grammar.specs.Write.{line_answer}
use Rattle.grammar.specs.Number.{line_read_number, line_read_operation, line_read_length, line_written_number, line_written_length}
use Rattle.grammar.specs.Returned.{LineReads, operation, not_line, LineReadsAs, LineWrites, done, no_size, no_rotation, register_limit, group_start, index_limit, no_room, LineWritesAs}
use Rattle.grammar.proofs.Lines.{line-exact, longest}

-- ---- reading

module _ (s : List ℕ) where
  read-returned : (a : Result Op NotLine) → read_of s ≡ a → LineReads s (line_read_number a) (line_read_operation a) (line_read_length a)
  unfolding line_read_number line_read_operation line_read_length
  read-returned (Ok op) e = operation op ((line-exact s op).0 e)
  read-returned (Err k) e = not_line k.reach ((longest s k.reach).0 e)

  read-answered : {n k : ℕ} {v : List Op} → LineReads s n v k → LineReadsAs s n v k
  unfolding line_read_number line_read_operation line_read_length
  read-answered (operation op l) = rw ((line-exact s op).1 l) (refl, refl, refl)
  read-answered (not_line k l) = rw ((longest s k).1 l) (refl, refl, refl)

  pub read-exact : (n : ℕ) (v : List Op) (k : ℕ) → LineReadsAs s n v k ↔ LineReads s n v k
  read-exact n v k =
      ((λ e. subst (λ x. LineReads s x v k) e.0 (subst (λ x. LineReads s (line_read_number (read_of s)) x k) e.1 (subst (LineReads s (line_read_number (read_of s)) (line_read_operation (read_of s))) e.2 (read-returned (read_of s) refl)))), read-answered)

-- ---- writing

module _ (op : Op) (room : ℕ) where
  write-returned : (s r g t i b : Bool) → (write_checks op).size ≡ s → (write_checks op).rotation ≡ r → (write_checks op).registers ≡ g → (write_checks op).start ≡ t → (write_checks op).index ≡ i → leb (length (line_of op)) room ≡ b →
      LineWrites op room (line_written_number (line_answer op room)) (line_written_length (line_answer op room))
  unfolding line_answer encode_of answer line_written_number line_written_length
  write-returned false r g t i b es er eg et ei eb = rw es (no_size es)
  write-returned true false g t i b es er eg et ei eb = rw (es, er) (no_rotation es er)
  write-returned true true false t i b es er eg et ei eb = rw (es, er, eg) (register_limit es er eg)
  write-returned true true true false i b es er eg et ei eb = rw (es, er, eg, et) (group_start es er eg et)
  write-returned true true true true false b es er eg et ei eb = rw (es, er, eg, et, ei) (index_limit es er eg et ei)
  write-returned true true true true true true es er eg et ei eb =
      rw (es, er, eg, et, ei, eb) (done (record { size = es; rotation = er; registers = eg; start = et; index = ei }) (leb-true (length (line_of op)) room eb))
  write-returned true true true true true false es er eg et ei eb =
      rw (es, er, eg, et, ei, eb) (no_room (record { size = es; rotation = er; registers = eg; start = et; index = ei }) (leb-false (length (line_of op)) room eb))

  write-answered : {n k : ℕ} → LineWrites op room n k → LineWritesAs op room n k
  unfolding line_answer encode_of answer line_written_number line_written_length
  write-answered (done p l) = rw (p.size, p.rotation, p.registers, p.start, p.index, le-leb (length (line_of op)) room l) (refl, refl)
  write-answered (no_size es) = rw es (refl, refl)
  write-answered (no_rotation es er) = rw (es, er) (refl, refl)
  write-answered (register_limit es er eg) = rw (es, er, eg) (refl, refl)
  write-answered (group_start es er eg et) = rw (es, er, eg, et) (refl, refl)
  write-answered (index_limit es er eg et ei) = rw (es, er, eg, et, ei) (refl, refl)
  write-answered (no_room p l) = rw (p.size, p.rotation, p.registers, p.start, p.index, lt-leb (length (line_of op)) room l) (refl, refl)

  pub write-exact : (n k : ℕ) → LineWritesAs op room n k ↔ LineWrites op room n k
  write-exact n k =
      ((λ e. subst (λ x. LineWrites op room x k) e.0 (subst (LineWrites op room _) e.1 (write-returned _ _ _ _ _ _ refl refl refl refl refl refl))), write-answered)
