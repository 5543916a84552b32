-- What the source's values say of a record.
--   Fields   the numbers as they were read
--   said     the description of a list of one PDU of data
--   line_by  a line by the source's
--   line_in  the line of an answer: all zero and not confirmed where the record is refused
--   Runs     a line comes of a run
-- Assumes nothing.
use Rattle.std.specs.Prelude.{ℕ, ◌≡◌, false, List, replicate, Result, Ok, Err}
use Rattle.modes.specs.declared.Kind.TheVariants.{Data}
use Rattle.modes.specs.declared.refusal.Refusal.{Refusal}
use Rattle.modes.specs.declared.description.Description.{Description}
use Rattle.record.specs.declared.Line as source
use Rattle.record.specs.Record.{mode_of, counter_of, length_of, place_of, Line, line, Run}

-- the fields as they were read
pub record Fields (bytes : List ℕ) (mode counter N a : ℕ) : Type 0 where
  pub mode_is : mode ≡ mode_of bytes
  pub counter_is : counter ≡ counter_of bytes
  pub n_is : N ≡ length_of bytes
  pub a_is : a ≡ place_of bytes

-- the description of a list of one PDU of data
abbrev pub said : (mode counter N a : ℕ) → Description
said mode counter N a =
    record { kind = Data; list = record { count = 1; modes = replicate 16 mode; lengths = replicate 16 N }; counter = counter; a = a }

-- a line by the source's
abbrev pub line_by : source.Line → Line
line_by l = line l.symbols l.n l.cost l.confirmed

-- the line of an answer
abbrev pub line_in : Result source.Line Refusal → Line
line_in (Ok l) = line_by l
line_in (Err _) = line 0 0 0 false

-- a line comes of a run
abbrev pub Runs : (mode counter N a : ℕ) → List ℕ → source.Line → Type 0
Runs mode counter N a octets l = Run mode counter N a octets (line_by l)
