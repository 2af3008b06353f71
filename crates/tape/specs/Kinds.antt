-- The ten kinds of record: the byte of each and the length of its body.
-- Assumes nothing.
use Rattle.std.specs.Prelude.{◌≡◌, ℕ, ◌≤◌, List, Some, None, Option, Result, Ok, IfOk, MatchResult, ◌≢◌, codes}
use Rattle.tape.specs.declared.kinds.Kind.{Kind}
use Rattle.tape.specs.declared.kinds.NoKind.{NoKind}
use Rattle.tape.specs.declared.kinds.Kind.TheVariants.{Head, Link, PlanEnd, Post, Shut, Try, Keep, Withdraw, Quote, Route}

-- how a kind of record is laid out
pub record Layout : Type 0 where
  pub byte : ℕ
  pub body : ℕ

-- A terminal takes 2 bytes, a book number, a meter and a part of a rate 4, a rate kind 1.
abbrev pub layout : Kind → Layout
layout Head = record { byte = 1; body = 11 }
layout Link = record { byte = 2; body = 4 }
layout PlanEnd = record { byte = 3; body = 0 }
layout Post = record { byte = 4; body = 12 }
layout Shut = record { byte = 5; body = 4 }
layout Try = record { byte = 6; body = 12 }
layout Keep = record { byte = 7; body = 0 }
layout Withdraw = record { byte = 8; body = 0 }
layout Quote = record { byte = 9; body = 4 }
layout Route = record { byte = 10; body = 4 }

abbrev pub kind_byte : Kind → ℕ
kind_byte k = (layout k).byte

abbrev pub body_length : Kind → ℕ
body_length k = (layout k).body

-- no kind has this byte
abbrev pub Unknown : ℕ → Type 0
Unknown b = (k : Kind) → kind_byte k ≢ b

-- the kind that a byte names, or none where no kind has it
abbrev pub KindOf : ℕ → Option Kind → Type 0
KindOf b (Some k) = kind_byte k ≡ b
KindOf b None = Unknown b

-- the kind that has the byte, or an error where no kind has it
abbrev pub Decodes : ℕ → Result Kind NoKind → Type 0
Decodes b r = MatchResult r (λ k. kind_byte k ≡ b) (λ _. Unknown b)

-- the names of the kinds
abbrev pub kind_name : Kind → List ℕ
kind_name Head = codes "head"
kind_name Link = codes "link"
kind_name PlanEnd = codes "plan-end"
kind_name Post = codes "post"
kind_name Shut = codes "shut"
kind_name Try = codes "try"
kind_name Keep = codes "keep"
kind_name Withdraw = codes "withdraw"
kind_name Quote = codes "quote"
kind_name Route = codes "route"

-- the kind that has the name, or an error where no kind has it
pub record Named (name : List ℕ) (r : Result Kind NoKind) : Type 0 where
  pub is : IfOk r (λ k. name ≡ kind_name k)
  pub back : (k : Kind) → name ≡ kind_name k → r ≡ Ok k

-- The ten kinds have the bytes 1 to 10, each its own.
pub record Numbered : Type 0 where
  pub within : (k : Kind) → (1 ≤ kind_byte k) × (kind_byte k ≤ 10)
  pub apart : (j k : Kind) → kind_byte j ≡ kind_byte k → j ≡ k
  pub each : (b : ℕ) → 1 ≤ b → b ≤ 10 → (k : Kind) × (kind_byte k ≡ b)
