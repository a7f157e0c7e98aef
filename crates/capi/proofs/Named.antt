-- What `kob_encode` answers, by the length of the lent part. Assumes nothing.
use mathlib.Core.Path.{◌≡◌}
use Prim.Native.Nat.{ℕ}
use mathlib.Core.List.{List}
use lib.ListN.{length}
use borrow.Author.Tests.{eq-eqb, ne_eqb}
use Rattle.fields.specs.Named.{numbers_at, named_of}
use Rattle.capi.specs.Encode.{named_packed, encode_call}

pub encode-refused : (fields : List ℕ) → (length fields ≡ 8 → ⊥) → 32 ≡ encode_call fields
unfolding encode_call
encode-refused fields ne = rw (ne_eqb (length fields) 8 ne)

pub encode-eight : (fields : List ℕ) → length fields ≡ 8 → named_packed (named_of (numbers_at fields)) ≡ encode_call fields
unfolding encode_call
encode-eight fields e = rw (eq-eqb (length fields) 8 e)
