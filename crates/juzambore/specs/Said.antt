-- What the C names make of their numbers, and of the answers of the calls.
--   Said        a description says this kind, list, counter and a
--   MappedAs    a mapped point in C's fields
--   outcome_by  the outcome that C's fields tell
--   SaidAs      a decode's answer in C's fields
-- Assumes nothing.
use Rattle.std.specs.Prelude.{ℕ, ◌≡◌, ◌≤◌, List, Result, eqb}
use Rattle.modes.specs.declared.Kind.{Kind}
use Rattle.modes.specs.declared.refusal.Refusal.{Refusal}
use Rattle.modes.specs.declared.description.Description.{Description}
use Rattle.modes.specs.Pdus.{Pdu}
use Rattle.modes.specs.Refusal.{answer_of}
use Rattle.modes.specs.Passed.{told}
use Rattle.points.specs.declared.Point.{Point}
use Rattle.modem.specs.declared.decode.Answer.{Answer}
use Rattle.modem.specs.Told.{point_i, point_q, outcome_of}
use Rattle.modem.specs.Decode.{Outcome, outcome}
use Rattle.juzambore.specs.declared.JuzamborePoint.{JuzamborePoint}
use Rattle.juzambore.specs.declared.JuzamboreAnswer.{JuzamboreAnswer}

-- a description says this kind, list, counter and a
pub record Said (kind : Kind) (ps : List Pdu) (counter a : ℕ) (by : Description) : Type 0 where
  pub kind_is : by.kind ≡ kind
  pub list_is : told by.list ≡ ps
  pub counter_is : by.counter ≡ counter
  pub a_is : by.a ≡ a

-- a mapped point in C's fields: the refusal's number and the two parts, +0 where it is refused
pub record MappedAs (mapped : Result Point Refusal) (said : JuzamborePoint) : Type 0 where
  pub refusal_is : said.refusal ≡ answer_of mapped
  pub i_is : said.i ≡ point_i mapped
  pub q_is : said.q ≡ point_q mapped

-- the outcome that C's fields tell, with what is left in the lent buffers
abbrev pub outcome_by : JuzamboreAnswer → (octets words : List ℕ) → Outcome
outcome_by said octets words = outcome said.symbols said.n said.cost (eqb said.confirmed 1) said.comparisons octets words

-- a decode's answer in C's fields: the refusal's number, the outcome, and 1 or 0 for the mark
pub record SaidAs (decoded : Result Answer Refusal) (said : JuzamboreAnswer) : Type 0 where
  pub refusal_is : said.refusal ≡ answer_of decoded
  pub outcome_is : (octets words : List ℕ) → outcome_by said octets words ≡ outcome_of decoded octets words
  pub flag : said.confirmed ≤ 1
