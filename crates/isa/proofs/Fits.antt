-- The index of a valid operation stays in its 128-bit segment. `valid-fits`, and `decoded-fits` for what a word decodes to. Assumes nothing.
use mathlib.Core.Path.{◌≡◌}
use Prim.Native.Nat.{ℕ, ◌*◌, ◌<◌}
use native.Mathlib.Omega.{arith}
use mathlib.Core.Bool.{true, false≢true}
use Rattle.isa.specs.declared.types.Size.{Size}
use Rattle.isa.specs.declared.types.Op.{Op}
use Rattle.isa.specs.declared.types.Decoded.{Decoded}
use Rattle.isa.specs.Register.{pairs}
use Rattle.isa.specs.Decode.{decode_of}
use Rattle.isa.specs.Encode.{half_or_single, by_size}
use Rattle.isa.specs.Valid.{Valid}
use Rattle.isa.proofs.Local.{Fits}
use Rattle.isa.proofs.Valid.{decoded-valid}

-- a segment has 4 pairs of H and 2 of S, and twice as many elements
index-fits : (per index : ℕ) (z : Size) → half_or_single z ≡ true → index < by_size (per * 4) (per * 2) z → index < per * pairs z
unfolding pairs
index-fits per index Size.B e h = absurd (false≢true e)
index-fits per index Size.H e h = h
index-fits per index Size.S e h = h
index-fits per index Size.D e h = absurd (false≢true e)

pub valid-fits : (op : Op) → Valid op → Fits op
unfolding Fits
valid-fits (Op.Cadd a) v = tt
valid-fits (Op.Sqcadd a) v = tt
valid-fits (Op.Cmla a) v = tt
valid-fits (Op.Sqrdcmlah a) v = tt
valid-fits (Op.CmlaIndexed a) v = omega (arith, index-fits 1 a.index a.size v.size v.index)
valid-fits (Op.SqrdcmlahIndexed a) v = omega (arith, index-fits 1 a.index a.size v.size v.index)
valid-fits (Op.Sqrdmlah a) v = index-fits 2 a.index a.size v.size v.index
valid-fits (Op.Sqrdmlsh a) v = index-fits 2 a.index a.size v.size v.index
valid-fits (Op.Sqdmulh a) v = tt

pub decoded-fits : (w : ℕ) (op : Op) → decode_of w ≡ Decoded.Operation op → Fits op
decoded-fits w op e = valid-fits op (decoded-valid w op e)
