-- `modem::decode::find`: soft bytes back to their coded bits, and the train that is then picked.
-- Assumes nothing.
use Rattle.modem.proofs.HeardLaws.{all_heard, same_cost, same_differing}
use Rattle.modem.proofs.PickLaws.{chosen_same}
use Rattle.modem.proofs.decode.find.Goals as goal

pub returns : goal.returns
returns c =
    let legal = c.requires.legal in
    let by_place = c.spread_train.ensures in
    let heard = all_heard c.args.soft.now c.requires.soft_fit.1 in
    record {
      chosen =
          chosen_same _ _ _ _ _ _ _ _ _ _ _ _ _
          (same_cost _ _ legal.fit.each legal.inside _ _ 6924 by_place (λ q h. heard q))
          (same_differing _ _ legal.fit.each legal.inside _ _ 6924 by_place (λ q h. heard q))
          c.pick.ensures.chosen;
      all_symbols = c.pick.ensures.all_symbols;
      all_sent = c.pick.ensures.all_sent;
    }
