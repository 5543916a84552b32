-- `modem::send`: the coded bits, and then the sent bits from them.
-- Assumes nothing.
use native.Mathlib.Omega.{arith}
use Rattle.modem.proofs.SizeLaws.{octets_whole, octets_enough}
use Rattle.modem.proofs.EnteringLaws.{first_few}
use Rattle.modem.proofs.SendLaws.{train_sent}
use Rattle.modem.proofs.send.Goals as goal

pub code-requires : goal.code-requires
code-requires c =
    let legal = c.requires.legal in
    let n = c.counts-n.ensures.n in
    let all = legal.fit.to_3456 in (
      omega (arith, c.first_scrambled-first.ensures, first_few c.args.train.now.kind, n, legal.inside),
      omega (arith, legal.to_15),
      omega (arith, n, all),
      octets_enough _ _ (rw n (octets_whole _ legal.fit.each)) (rw n c.requires.octets_long),
      omega (arith, n, all),
    )

pub returns : goal.returns
returns c =
    train_sent _ _ _ c.requires.legal _ _ _ _ _ _ _ _ c.counts-n.ensures.n c.first_scrambled-first.ensures c.requires.counter_same c.code.ensures c.send_train.ensures
