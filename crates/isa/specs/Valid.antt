-- What execution relies on in an operation: its family has the size and the rotation, its registers exist, its group lies among them, and its index is within a 128-bit segment.
use Rattle.std.specs.Prelude.{◌+◌, ◌<◌, ◌≤◌, ◌≡◌, true}
use Rattle.isa.specs.declared.types.Add.{Add}
use Rattle.isa.specs.declared.types.Mul.{Mul}
use Rattle.isa.specs.declared.types.MulIndexed.{MulIndexed}
use Rattle.isa.specs.declared.types.ByElement.{ByElement}
use Rattle.isa.specs.declared.types.MulGroup.{MulGroup}
use Rattle.isa.specs.declared.types.Op.{Op}
use Rattle.isa.specs.Register.{group_count}
use Rattle.isa.specs.Encode.{add_rotation, half_or_single, by_size}

pub record AddValid (a : Add) : Type 0 where
  pub rot : add_rotation a.rot ≡ true
  pub zm : a.zm < 32
  pub zdn : a.zdn < 32

pub record MulValid (a : Mul) : Type 0 where
  pub zm : a.zm < 32
  pub zn : a.zn < 32
  pub zda : a.zda < 32

-- a segment has 4 pairs of H and 2 of S
pub record IndexedValid (a : MulIndexed) : Type 0 where
  pub size : half_or_single a.size ≡ true
  pub zm : a.zm < 32
  pub zn : a.zn < 32
  pub zda : a.zda < 32
  pub index : a.index < by_size 4 2 a.size

-- a segment has 8 elements of H and 4 of S
pub record ElementValid (a : ByElement) : Type 0 where
  pub size : half_or_single a.size ≡ true
  pub rm : a.rm < 32
  pub rn : a.rn < 32
  pub rd : a.rd < 32
  pub index : a.index < by_size 8 4 a.size

pub record GroupValid (a : MulGroup) : Type 0 where
  pub zm : a.zm < 32
  pub group : a.zdn + group_count a.group ≤ 32

abbrev pub Valid : Op → Type 0
Valid (Op.Cadd a) = AddValid a
Valid (Op.Sqcadd a) = AddValid a
Valid (Op.Cmla a) = MulValid a
Valid (Op.Sqrdcmlah a) = MulValid a
Valid (Op.CmlaIndexed a) = IndexedValid a
Valid (Op.SqrdcmlahIndexed a) = IndexedValid a
Valid (Op.Sqrdmlah a) = ElementValid a
Valid (Op.Sqrdmlsh a) = ElementValid a
Valid (Op.Sqdmulh a) = GroupValid a
