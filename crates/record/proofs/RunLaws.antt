-- A record of which all has been tested: encode, ideal and decode_readings of a list of one PDU are done, one after the other, and make a run
-- of document 01's train.
-- Assumes nothing.
use mathlib.Core.Path.{◌≡◌, refl, sym, ◌∙◌, ap}
use mathlib.Core.Bool.{true, not}
use mathlib.Core.List.{List}
use Prim.Native.Nat.{ℕ, ◌≤◌, ◌<◌}
use native.Mathlib.Omega.{arith}
use lib.IntN.{ℤ}
use lib.ListN.{length, get_or, take}
use borrow.Author.Tests.{le-ltb, eq-eqb}
use Rattle.laws.specs.Ladder.{ladder}
use Rattle.laws.specs.Lists.{tabulate}
use Rattle.laws.proofs.LadderLaws.{given_goes_on}
use Rattle.modes.specs.declared.Kind.TheVariants.{Data}
use Rattle.modes.specs.declared.train.Train.{Train}
use Rattle.modes.specs.declared.description.Description.{Description}
use Rattle.modes.specs.Sizes.{symbols, carriers, sent_bits, octets_of}
use Rattle.modes.specs.Pdus.{one, pdus_of, length_of, symbols_of, carriers_of, sent_of}
use Rattle.modes.specs.Passed.{told, pdus_in}
use Rattle.modes.specs.Refusals.{described, list_described, encode_described}
use Rattle.modes.specs.Description.{Fit, EachFit, LegalList}
use Rattle.modes.proofs.RefusalLaws.{one_described, list_legal}
use Rattle.modes.proofs.SizeLaws.{sent_within, symbols_of_within}
use Rattle.modem.specs.Encode.{encode_refusal, Encode}
use Rattle.modem.specs.Ideal.{Ideal}
use Rattle.modem.specs.Decode.{Outcome, outcome, DecodeReadings}
use Rattle.modem.proofs.SizeLaws.{carriers_symbols}
use Rattle.modem.proofs.LentLaws.{lent_passes}
use Rattle.modem.proofs.ChainLaws.{chain_ideal, chain_done}
use Rattle.modem.proofs.Demands.{demand_2_given_back}
use Rattle.modem.proofs.One.{one_length, one_symbols, one_carriers, one_sent, one_encode, one_ideal, one_decode_readings}
use Rattle.record.specs.Record.{Line, line, Run}
use Rattle.record.specs.Said.{said}

-- what the calls promise of the description of a record, they promise of its one PDU
module _ (mode counter N a : ℕ) (by : Description) (is : by ≡ said mode counter N a) where
  pub said_encode : (octets sent₀ : List ℕ) (r : ℕ) (sent : List ℕ)
      → Encode by.kind (told by.list) by.counter by.a octets sent₀ r sent → Encode Data (one mode N) counter a octets sent₀ r sent
  unfolding pdus_of tabulate
  said_encode octets sent₀ r sent p = rw is at p

  pub said_ideal : (sent : List ℕ) (i₀ q₀ : List ℤ) (r : ℕ) (i q : List ℤ)
      → Ideal (told by.list) sent i₀ q₀ r i q → Ideal (one mode N) sent i₀ q₀ r i q
  unfolding pdus_of tabulate
  said_ideal sent i₀ q₀ r i q p = rw is at p

  pub said_decoded : (i q : List ℤ) (octets words : List ℕ) (r : ℕ) (o : Outcome)
      → DecodeReadings by.kind (told by.list) by.counter by.a i q octets words r o → DecodeReadings Data (one mode N) counter a i q octets words r o
  unfolding pdus_of tabulate
  said_decoded i q octets words r o p = rw is at p

-- the sizes of a train of one PDU
module _ (mode N : ℕ) (t : Train) (is : pdus_in t ≡ one mode N) where
  pub counted_symbols : (n : ℕ) → n ≡ symbols_of (pdus_in t) → n ≡ symbols mode N
  counted_symbols n e = e ∙ ap symbols_of is ∙ one_symbols mode N

  pub counted_sent : (n : ℕ) → n ≡ sent_of (pdus_in t) → n ≡ sent_bits mode N
  counted_sent n e = e ∙ ap sent_of is ∙ one_sent mode N

module _ (mode counter N a : ℕ) (passed : ladder (described mode counter N a) ≡ 0) (small : N ≤ 432) where
  zero : ladder (list_described (one mode N) counter a) ≡ 0
  zero = one_described mode counter N a ∙ passed

  legal : LegalList (one mode N) counter a
  legal = list_legal (one mode N) counter a zero

  fit : Fit mode N
  unfolding EachFit
  fit = legal.fit.each.0

  -- the buffers of the bench are long enough for 432 bits
  pub few_sent : sent_bits mode N ≤ 864
  few_sent = omega (arith, sent_within mode N fit, small)

  pub few_carriers : carriers mode N ≤ 864
  few_carriers =
      omega (arith, one_carriers mode N, carriers_symbols (one mode N), symbols_of_within (one mode N) legal.fit.each, one_length mode N, small)

  pub encoded_done : (octets sent₀ sent : List ℕ) (r : ℕ) → length octets ≡ octets_of N → length sent₀ ≡ 864 → Encode Data (one mode N) counter a octets sent₀ r sent
      → r ≡ 0
  unfolding Encode encode_refusal encode_described
  encoded_done octets sent₀ sent r whole room p =
      p.answer
      ∙ given_goes_on _ _ zero
      ∙ lent_passes 12 _ _ _ (ap not (eq-eqb (length octets) _ (whole ∙ ap octets_of (sym (one_length mode N)))))
      (le-ltb (length sent₀) (sent_of (one mode N)) (omega (arith, one_sent mode N, few_sent, room))) refl

  -- the ideal readings are taken where the octets are encoded
  pub taken_done : (octets sent₀ sent : List ℕ) (i₀ q₀ i q : List ℤ) (bits r₁ r₂ : ℕ) → length octets ≡ octets_of N
      → length sent₀ ≡ 864 → length i₀ ≡ 864 → length q₀ ≡ 864 → bits ≡ sent_bits mode N
      → Encode Data (one mode N) counter a octets sent₀ r₁ sent → Ideal (one mode N) (take bits sent) i₀ q₀ r₂ i q → r₂ ≡ 0
  taken_done octets sent₀ sent i₀ q₀ i q bits r₁ r₂ whole hs hi hq eb p₁ p₂ =
      let encoded : Encode Data (one mode N) counter a octets sent₀ 0 sent = rw (encoded_done octets sent₀ sent r₁ whole hs p₁) at p₁ in
      (chain_ideal Data (one mode N) counter a octets sent₀ sent encoded i₀ q₀
      (omega (arith, few_carriers, one_carriers mode N)) (omega (arith, few_carriers, one_carriers mode N)) r₂ i q
      (rw (eb, ← one_sent mode N) at p₂)).0

  -- the three calls, one after the other: by demand 2 the other two are done where the first is
  pub run_done : (octets sent₀ sent : List ℕ) (i₀ q₀ i q : List ℤ) (octets₀ words₀ : List ℕ) (bits all r₁ r₂ r₃ : ℕ) (o : Outcome)
      → ((k : ℕ) → get_or octets k 0 < 256) → length octets ≡ octets_of N
      → length sent₀ ≡ 864 → length i₀ ≡ 864 → length q₀ ≡ 864 → length octets₀ ≡ 54 → length words₀ ≡ 438
      → bits ≡ sent_bits mode N → all ≡ carriers mode N
      → Encode Data (one mode N) counter a octets sent₀ r₁ sent → Ideal (one mode N) (take bits sent) i₀ q₀ r₂ i q
      → DecodeReadings Data (one mode N) counter a (take all i) (take all q) octets₀ words₀ r₃ o
      → (r₃ ≡ 0) × Run mode counter N a octets (line o.symbols o.n o.cost o.confirmed)
  unfolding octets_of
  run_done octets sent₀ sent i₀ q₀ i q octets₀ words₀ bits all r₁ r₂ r₃ o low whole hs hi hq ho hw eb ea p₁ p₂ p₃ =
      let encoded : Encode Data (one mode N) counter a octets sent₀ 0 sent = rw (encoded_done octets sent₀ sent r₁ whole hs p₁) at p₁ in
      let taken : Ideal (one mode N) (take (sent_bits mode N) sent) i₀ q₀ r₂ i q = rw eb at p₂ in
      let decoded : DecodeReadings Data (one mode N) counter a (take (carriers mode N) i) (take (carriers mode N) q) octets₀ words₀ r₃ o = rw ea at p₃ in
      let n_is : length_of (one mode N) ≡ N = one_length mode N in
      let (z₂, back) = demand_2_given_back Data (one mode N) counter counter a octets sent₀ sent i₀ q₀ i q octets₀ words₀ r₂ r₃ o low encoded
      (omega (arith, few_carriers, one_carriers mode N)) (omega (arith, few_carriers, one_carriers mode N))
      (rw (one_sent mode N) taken) (omega (arith, n_is)) (omega (arith, n_is)) refl (rw (one_carriers mode N) decoded)
      in (
        back.done,
        record {
          sent₀ = sent₀;
          sent = sent;
          i₀ = i₀;
          q₀ = q₀;
          i = i;
          q = q;
          octets₀ = octets₀;
          words₀ = words₀;
          octets' = o.octets;
          words' = o.words;
          comparisons = o.comparisons;
          encoded = rw (← one_encode mode N a counter octets sent₀ 0 sent) encoded;
          taken = rw (← one_ideal mode N (take (sent_bits mode N) sent) i₀ q₀ 0 i q) (rw z₂ at taken);
          decoded = rw (← one_decode_readings mode N a counter (take (carriers mode N) i) (take (carriers mode N) q) octets₀ words₀ 0 o) (rw back.done at decoded);
        },
      )

-- what went in came back, at no cost and confirmed
pub run_back : (mode counter N a : ℕ) (octets : List ℕ) (l : Line) → ((k : ℕ) → get_or octets k 0 < 256) → Run mode counter N a octets l
    → (l.cost ≡ 0) × (l.confirmed ≡ true)
run_back mode counter N a octets l low run =
    let encoded : Encode Data (one mode N) counter a octets run.sent₀ 0 run.sent = rw (one_encode mode N a counter octets run.sent₀ 0 run.sent) run.encoded in
    let taken : Ideal (one mode N) (take (sent_of (one mode N)) run.sent) run.i₀ run.q₀ 0 run.i run.q =
    rw (one_sent mode N, one_ideal mode N (take (sent_bits mode N) run.sent) run.i₀ run.q₀ 0 run.i run.q) run.taken
    in
    let decoded : DecodeReadings Data (one mode N) counter a (take (carriers_of (one mode N)) run.i) (take (carriers_of (one mode N)) run.q) run.octets₀ run.words₀ 0
    (outcome l.symbols l.n l.cost l.confirmed run.comparisons run.octets' run.words') =
    rw (one_carriers mode N, one_decode_readings mode N a counter (take (carriers mode N) run.i) (take (carriers mode N) run.q) run.octets₀ run.words₀ 0 (outcome l.symbols l.n l.cost l.confirmed run.comparisons run.octets' run.words'))
    run.decoded
    in
    let back = chain_done Data (one mode N) counter a octets run.sent₀ run.sent run.i₀ run.q₀ run.i run.q run.octets₀ run.words₀ _ low encoded taken decoded in
    (back.no_cost, back.sure)
