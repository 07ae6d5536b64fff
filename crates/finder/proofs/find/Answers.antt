-- `finder::find` meets its contract: the picture is made ready, and refused or traced. Assumes nothing.
use mathlib.Core.Path.{refl}
use native.Mathlib.Omega.{arith}
use Rattle.std.proofs.lemmas.Result.{err_from_is_err_and}
use Rattle.laws.proofs.Past.{past-none}
use Rattle.laws.specs.Plane.{plane}
use Rattle.region_outline.specs.Region.{need_of}
use Rattle.finder.proofs.Passing.{given-none, given_is, refused-is, given-past}
use Rattle.finder.proofs.Prepared.{ready-roomy}
use Rattle.finder.proofs.Regions.{all-groups}
use Rattle.finder.proofs.find.Goals as goal

pub returns-in_err-k : goal.returns-in_err-k
returns-in_err-k c =
    let a = c.args in
    let q = c.in_err-k.ensures in
    let p = err_from_is_err_and c.from_residual.result c.from_residual.ensures.1 in
    rw (p.1, p.2) (
    record {
      answer = refused-is a.gray.now a.w a.h a.most _ _ _ q.answer;
      levels = q.levels;
      labels = q.labels;
      stack = q.stack;
      points = past-none _ _;
      straight = past-none _ _;
      cand = past-none _ _;
      buf = past-none _ _;
    }
    )

pub overflow_cast-most : goal.overflow_cast-most
overflow_cast-most c = let q = c.in_ok-k.ensures.ready _ refl in omega (arith, q.version)

pub trace-t-requires : goal.trace-t-requires
trace-t-requires c =
    let a = c.args in
    let q = c.in_ok-k.ensures.ready _ refl in
    record {
      photo = q.photo;
      gridded = q.grids;
      k_value = q.kept;
      most_bound = q.version;
      roomy = ready-roomy _ _ _ a.w a.h _ _ _ a.points.now a.straight.now a.cand.now a.buf.now q refl refl
          refl refl;
    }

pub returns : goal.returns
returns c =
    let a = c.args in
    let p = c.in_ok-k.ensures in
    let q = p.ready _ refl in
    let t = c.trace-t.ensures in
    let n = need_of a.w a.h in
    record {
      answer = given_is a.gray.now a.w a.h a.most _ _ _ (given-none _ _ _ p.answer)
          (all-groups (plane a.w a.gray.now) a.w a.h _ q.kept) t.answer;
      levels = p.levels;
      labels = p.labels;
      stack = p.stack;
      points = given-past _ n t.points.first;
      straight = given-past _ n t.points.second;
      cand = given-past _ n t.points.third;
      buf = given-past _ n t.points.fourth;
    }
