-- The text that lines of orders are answered with, from the network as the lines above made it.
-- Assumes nothing; the kind of rate is any, with its words and its text.
use Rattle.std.specs.Prelude.{◌≡◌, ℕ, ◌⊎◌, List, [], ◌∷◌, ◌++◌, Some, None, Ok, Err, Option, Result, codes, decimal, string_bytes}
use Rattle.std.specs.List.{flat_map}
use Rattle.offers.specs.declared.kinds.KindName.{KindName}
use Rattle.offers.specs.KindNames.{name_of}
use Rattle.offers.specs.Words.{CentsRead, TonnesRead, PairRead}
use Rattle.rates.specs.Amounts.{cents_kind}
use Rattle.rates.specs.Kinds.{Kind}
use Rattle.rates.specs.Loads.{tonnes_kind}
use Rattle.rates.specs.Meanings.{amount_of, load_of}
use Rattle.rates.specs.Pairs.{couple_of, pair_kind}
use Rattle.rates.specs.Texts.{cents_text, tonnes_text}
use Rattle.trips.specs.Trips.{NoEarning}
use Rattle.slow_quotes.specs.declared.order.Order.{Order}
use Rattle.slow_quotes.specs.declared.fault.Fault.{Fault}
use Rattle.slow_quotes.specs.declared.fault.Fault.TheVariants.{NoKind, NoOrder}
use Rattle.slow_quotes.specs.declared.quotes.Line.{Line}
use Rattle.slow_quotes.specs.declared.held.Quotation.{Quotation}
use Rattle.slow_quotes.specs.Faults.{reason}
use Rattle.slow_quotes.specs.Orders.{OrderIs}
use Rattle.slow_quotes.specs.Networks.{Network, WithoutLanes, Answered}

-- the message of a line at fault
abbrev pub fault_text : ℕ → Fault → List ℕ
fault_text number fault = codes "line " ++ (decimal number ++ (codes ": " ++ (reason fault ++ codes "\n")))

-- the messages of lines above the first that names a kind
abbrev pub kindless_text : List Line → List ℕ
kindless_text lines = flat_map (λ line. fault_text line.number NoKind) lines

-- the text of a quoted rate
abbrev pub quotation_text : {V : Type 0} → (V → List ℕ) → Quotation V → List ℕ
quotation_text text q = decimal q.ends.from ++ (codes " to " ++ (decimal q.ends.to ++ (codes ": " ++ (text q.rate ++ codes "\n"))))

-- what is printed of the answer to a line
abbrev pub answer_text : {V : Type 0} → (V → List ℕ) → ℕ → Result (Option (Quotation V)) Fault → List ℕ
answer_text text number (Ok None) = []
answer_text text number (Ok (Some quotation)) = quotation_text text quotation
answer_text text number (Err fault) = fault_text number fault

module _ {M V : Type 0} (K : Kind M) (means : V → M) (Reads : List ℕ → Option V → Type 0) (text : V → List ℕ) where
  -- a line that writes no order is at fault and changes nothing
  pub record NoOrderWritten (before : Network M) (line : Line) (after : Network M) (said : List ℕ) : Type 0 where
    pub no_order : OrderIs Reads (string_bytes line.text) None
    pub unchanged : after ≡ before
    pub text_is : said ≡ fault_text line.number NoOrder

  -- the order that a line writes is answered
  pub record OrderCarriedOut (before : Network M) (line : Line) (after : Network M) (said : List ℕ) : Type 0 where
    pub order : Order V
    pub answer : Result (Option (Quotation V)) Fault
    pub writes : OrderIs Reads (string_bytes line.text) (Some order)
    pub answered : Answered K means before order after answer
    pub text_is : said ≡ answer_text text line.number answer

  -- what a line is answered with, and the network after it
  abbrev pub LineAnswered : Network M → Line → Network M → List ℕ → Type 0
  LineAnswered before line after said = NoOrderWritten before line after said ⊎ OrderCarriedOut before line after said

  -- what lines are answered with, one after the other, and the network after them
  abbrev pub LinesAnswered : Network M → List Line → Network M → List ℕ → Type 0
  LinesAnswered before [] after said = (after ≡ before) × (said ≡ [])
  LinesAnswered before (line ∷ lines) after said =
      (between : Network M) × (first : List ℕ) × (others : List ℕ)
      × LineAnswered before line between first × LinesAnswered between lines after others × (said ≡ first ++ others)

  -- the same for lines below the name of a kind: at first there is a network without terminals
  pub record QuotedUpTo (lines : List Line) (last : Network M) (said : List ℕ) : Type 0 where
    pub first : Network M
    pub begins : WithoutLanes K 0 first
    pub answered : LinesAnswered first lines last said

  -- in the network after them no closed trip earns
  pub record Quoted (lines : List Line) (said : List ℕ) : Type 0 where
    pub last : Network M
    pub up_to : QuotedUpTo lines last said
    pub none_earns : NoEarning K last.lanes

-- the names of the kinds
abbrev pub cents_name : List ℕ
cents_name = codes "cents"

abbrev pub tonnes_name : List ℕ
tonnes_name = codes "tonnes"

abbrev pub pairs_name : List ℕ
pairs_name = codes "cents before tonnes"

abbrev pub NamesKind : List ℕ → Type 0
NamesKind name = (name ≡ cents_name) ⊎ (name ≡ tonnes_name) ⊎ (name ≡ pairs_name)

-- what is printed above the answers to lines: the name of their kind, if one is named yet
abbrev pub heading : Option KindName → List ℕ
heading None = codes "no kind"
heading (Some kind) = name_of kind

abbrev pub CentsQuoted : List Line → List ℕ → Type 0
CentsQuoted = Quoted cents_kind amount_of CentsRead cents_text

abbrev pub TonnesQuoted : List Line → List ℕ → Type 0
TonnesQuoted = Quoted tonnes_kind load_of TonnesRead tonnes_text

abbrev pub PairsQuoted : List Line → List ℕ → Type 0
PairsQuoted =
    Quoted (pair_kind cents_kind tonnes_kind) (λ pair. couple_of cents_kind tonnes_kind (amount_of pair.first) (load_of pair.second))
    (PairRead CentsRead TonnesRead) (λ pair. cents_text pair.first ++ (codes ", " ++ tonnes_text pair.second))

-- what lines are answered with, by the kind that is named above them
abbrev pub ByKind : List ℕ → List Line → List ℕ → Type 0
ByKind name lines said =
    ((name ≡ cents_name) × CentsQuoted lines said)
    ⊎ ((name ≡ tonnes_name) × TonnesQuoted lines said)
    ⊎ ((name ≡ pairs_name) × PairsQuoted lines said)
    ⊎ ((NamesKind name → ⊥) × (said ≡ kindless_text lines))

-- the name, and behind it what the lines are answered with
pub record Told (name : List ℕ) (lines : List Line) (said : List ℕ) : Type 0 where
  pub answers : List ℕ
  pub by_kind : ByKind name lines answers
  pub text_is : said ≡ name ++ (codes "\n" ++ answers)
