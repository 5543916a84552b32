-- The source's values in the words of these definitions.
--   source_by  the coded bit that is put out at q, by the source's P1 and P2
--   bits_in    how many sent bits a PDU of the source has
-- Assumes nothing.
use Rattle.std.specs.Prelude.{ℕ}
use Rattle.modes.specs.declared.Pdu.{Pdu}
use Rattle.modes.specs.Modes.{bits_of, number}
use Rattle.modes.specs.Sizes.{symbols}
use Rattle.places.specs.declared.puncture.Punctured.{Punctured}
use Rattle.places.specs.Sending.{source_of, symbol_bits}

-- the coded bit that is put out at q
abbrev pub source_by : Punctured → ℕ → ℕ
source_by p q = source_of p.rate p.a p.first q

-- how many sent bits a PDU has
abbrev pub bits_in : Pdu → ℕ
bits_in p = symbol_bits (bits_of p.mode.constellation) (symbols (number p.mode) p.n)
