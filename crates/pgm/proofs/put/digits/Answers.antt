-- `pgm::put::digits` meets its contract. Assumes nothing.
use Rattle.text.proofs.Decimals.{length-one}
use Rattle.pgm.proofs.Numbers.{size-two, size-three, size-four}
use mathlib.Core.Path.{sym}
use native.Mathlib.Omega.{arith}
use Rattle.pgm.proofs.put.digits.Goals as goal

pub returns-then-n-lt10 : goal.returns-then-n-lt10
returns-then-n-lt10 c =
    record {
      answer = sym (length-one c.args.n c.if-n-lt10.true);
      most = omega arith;
    }

pub returns-then-n-lt100 : goal.returns-then-n-lt100
returns-then-n-lt100 c =
    record {
      answer = sym (size-two c.args.n c.if-n-lt10.false c.if-n-lt100.true);
      most = omega arith;
    }

pub returns-then-n-lt1000 : goal.returns-then-n-lt1000
returns-then-n-lt1000 c =
    record {
      answer = sym (size-three c.args.n c.if-n-lt100.false c.if-n-lt1000.true);
      most = omega arith;
    }

pub returns : goal.returns
returns c =
    record {
      answer = sym (size-four c.args.n c.if-n-lt1000.false c.requires);
      most = omega arith;
    }
