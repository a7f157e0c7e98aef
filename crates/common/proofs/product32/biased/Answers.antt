-- `common::product32::biased` meets its contract: the sum is not negative and fits.
use Rattle.std.proofs.Common.{lit≤, w64}
use Rattle.integer.proofs.Widen.{wide32, fits-cast}
use Rattle.integer.proofs.Biased.{fits-biased, cast-biased, biased-is}
use Rattle.common.proofs.product32.biased.Goals as goal

pub overflow_cast-result : goal.overflow_cast-result
overflow_cast-result c = fits-cast wide32 c.ranges.a

pub overflow_add-result : goal.overflow_add-result
overflow_add-result c = fits-biased wide32 c.ranges.a

pub overflow_cast-result-2 : goal.overflow_cast-result-2
overflow_cast-result-2 c = cast-biased wide32 c.ranges.a w64 (lit≤ tt)

pub returns : goal.returns
returns c = biased-is wide32 c.ranges.a
