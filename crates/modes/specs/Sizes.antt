-- How long things are, by a mode's number k and the information bits N.
--   symbols    N over the information bits per symbol
--   carriers   data carriers in all symbols: 48 in each
--   sent_bits  document 01's n: symbols times the sent bits per symbol
--   octets     N over 8
-- Assumes nothing.
use Rattle.std.specs.Prelude.{ℕ, ◌*◌, ◌/◌}
use Rattle.modes.specs.Modes.{sent, info}

-- N over the information bits per symbol
unfoldable pub symbols : ℕ → ℕ → ℕ
symbols k N = N / info k

-- data carriers in all symbols
unfoldable pub carriers : ℕ → ℕ → ℕ
carriers k N = 48 * symbols k N

-- document 01's n
unfoldable pub sent_bits : ℕ → ℕ → ℕ
sent_bits k N = symbols k N * sent k

-- octets that hold N bits
unfoldable pub octets_of : ℕ → ℕ
octets_of N = N / 8
