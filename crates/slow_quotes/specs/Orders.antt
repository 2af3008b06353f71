-- What a line orders of a network.
-- Assumes nothing.
use Rattle.std.specs.Prelude.{◌≡◌, ℕ, List, [], ◌∷◌, codes, Option, None, Some}
use Rattle.slow_quotes.specs.declared.order.Order.{Order}
use Rattle.slow_quotes.specs.declared.order.Order.TheVariants.{Terminals, Lane, Shut, Quote}
use Rattle.words.specs.Words.{WordsOf, NumeralOf}

-- the words are "terminals" and a numeral of n
abbrev pub NamesTerminals : List (List ℕ) → ℕ → Type 0
NamesTerminals ws n = (word : List ℕ) × (ws ≡ codes "terminals" ∷ word ∷ []) × NumeralOf word n

-- the words are "lane", numerals of two terminals, and a word for a rate
abbrev pub NamesLane : List (List ℕ) → ℕ → ℕ → List ℕ → Type 0
NamesLane ws a b word =
    (from : List ℕ) × (to : List ℕ) × (ws ≡ codes "lane" ∷ from ∷ to ∷ word ∷ []) × NumeralOf from a × NumeralOf to b

-- the words are "shut" and numerals of two terminals
abbrev pub NamesShut : List (List ℕ) → ℕ → ℕ → Type 0
NamesShut ws a b = (from : List ℕ) × (to : List ℕ) × (ws ≡ codes "shut" ∷ from ∷ to ∷ []) × NumeralOf from a × NumeralOf to b

-- the words are "quote" and numerals of two terminals
abbrev pub NamesQuote : List (List ℕ) → ℕ → ℕ → Type 0
NamesQuote ws a b = (from : List ℕ) × (to : List ℕ) × (ws ≡ codes "quote" ∷ from ∷ to ∷ []) × NumeralOf from a × NumeralOf to b

module _ {R : Type 0} (Reads : List ℕ → Option R → Type 0) where
  -- the words are those of no order: of a lane at most, with a word that is read as no rate
  pub record NamesNone (ws : List (List ℕ)) : Type 0 where
    pub no_terminals : (n : ℕ) → NamesTerminals ws n → ⊥
    pub no_lane : (a b : ℕ) (word : List ℕ) → NamesLane ws a b word → Reads word None
    pub no_shut : (a b : ℕ) → NamesShut ws a b → ⊥
    pub no_quote : (a b : ℕ) → NamesQuote ws a b → ⊥

  -- what the words mean, if they mean an order; a lane has a rate that its word is read as
  abbrev pub Means : List (List ℕ) → Option (Order R) → Type 0
  Means ws None = NamesNone ws
  Means ws (Some (Terminals n)) = NamesTerminals ws n
  Means ws (Some (Lane ends rate)) = (word : List ℕ) × NamesLane ws ends.from ends.to word × Reads word (Some rate)
  Means ws (Some (Shut ends)) = NamesShut ws ends.from ends.to
  Means ws (Some (Quote ends)) = NamesQuote ws ends.from ends.to

  -- what the line orders: what its words mean
  abbrev pub OrderIs : List ℕ → Option (Order R) → Type 0
  OrderIs line r = (ws : List (List ℕ)) × WordsOf line ws × Means ws r
