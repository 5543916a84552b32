-- `modem::decode::pick`: the search, its mark, and the train as octets.
-- Assumes nothing.
use mathlib.Core.Path.{◌≡◌}
use Prim.Native.Nat.{◌%◌, ◌≤◌}
use native.Mathlib.Omega.{arith}
use Rattle.modes.specs.Sizes.{octets_of}
use Rattle.modes.proofs.RefusalLaws.{first_long}
use Rattle.modes.proofs.DescriptionLaws.{fit_in}
use Rattle.modem.proofs.SizeLaws.{octets_whole}
use Rattle.modem.proofs.PassedLaws.{train_short}
use Rattle.modem.proofs.PickLaws.{first_low, pick_chosen}
use Rattle.modem.proofs.decode.pick.Goals.{After-counts-counts}
use Rattle.modem.proofs.decode.pick.Goals as goal

bits : (c : After-counts-counts) → (6 ≤ c.counts-counts.result.n) × (c.counts-counts.result.n ≤ 3456)
bits c =
    let fit = fit_in c.args.train.now in
    (omega (arith, c.counts-counts.ensures.n, first_long _ fit.from_1 fit.each), omega (arith, c.counts-counts.ensures.n, fit.to_3456))

pub search-cost-requires : goal.search-cost-requires
search-cost-requires c =
    let n = c.counts-counts.ensures.n in
    let most = (bits (goal.at.search-cost-requires c).After-counts-counts).1 in
    (omega (arith, most), omega (arith, n, c.requires.heard_long), most, omega (arith, n, c.requires.words_room))

pub counter_of-own-requires : goal.counter_of-own-requires
counter_of-own-requires c =
    let bits = bits (goal.at.counter_of-own-requires c).After-counts-counts in
    (c.requires.counter, omega (arith, c.search-cost.auto.train), first_low _ _ bits.0 c.search-cost.ensures.returned.train)

pub descramble-requires : goal.descramble-requires
unfolding octets_of
descramble-requires c =
    let bits = bits (goal.at.descramble-requires c).After-counts-counts in
    (omega (arith, c.counter_of-own.ensures.1, c.requires.counter), bits.1, omega (arith, bits.1, c.search-cost.auto.train), rw c.counts-counts.ensures.n c.requires.octets_room)

pub overflow_cast-result : goal.overflow_cast-result
overflow_cast-result c =
    let (_, symbols, sent) = train_short c.args.train.now in
    omega (arith, c.counts-counts.ensures.symbols, symbols, c.counts-counts.ensures.sent, sent)

pub overflow_cast-result-2 : goal.overflow_cast-result-2
overflow_cast-result-2 c =
    let (_, symbols, sent) = train_short c.args.train.now in
    omega (arith, c.counts-counts.ensures.symbols, symbols, c.counts-counts.ensures.sent, sent)

pub comparisons-requires : goal.comparisons-requires
comparisons-requires c =
    let bits = bits (goal.at.comparisons-requires c).After-counts-counts in
    (bits.0, omega (arith, bits.1))

pub returns : goal.returns
returns c =
    let long = (bits (goal.at.returns c).After-counts-counts).0 in
    let n = c.counts-counts.ensures.n in
    let whole : c.counts-counts.result.n % 8 ≡ 0 = rw n (octets_whole _ (fit_in c.args.train.now).each) in
    record {
      chosen = rw n at
          (pick_chosen _ _ _ _ _ _ c.descramble.ensures _ _ _ _ _ _ _ _ _ whole long
          c.first_scrambled-first.ensures c.counter_of-own.ensures.0 c.search-cost.ensures c.mark-confirmed.ensures c.comparisons.ensures);
      all_symbols = c.counts-counts.ensures.symbols;
      all_sent = c.counts-counts.ensures.sent;
    }
