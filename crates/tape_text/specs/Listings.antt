-- A tape as a listing: a line for each record, then a line that says how the tape ends.
-- Assumes nothing of the tape.
use Rattle.std.specs.Prelude.{◌≡◌, ℕ, List, ◌++◌, map, length, Some, None, codes, decimal, Option}
use Rattle.std.specs.List.{flat_map}
use Rattle.tape.specs.declared.contents.Placed.{Placed}
use Rattle.tape.specs.declared.faults.TapeFault.{TapeFault}
use Rattle.tape.specs.Faults.{fault_text}
use Rattle.tape.specs.Tape.{Ending, regular, faulty, Means}
use Rattle.tape.specs.Laws.{part_of}
use Rattle.tape.specs.Texts.{line_of}

abbrev pub ending_of : Option TapeFault → Ending
ending_of None = regular
ending_of (Some f) = faulty f

-- the last line: a remark at a regular end, else the fault with its place
abbrev pub end_text : Option TapeFault → ℕ → List ℕ
end_text None n = codes "# end at " ++ decimal n
end_text (Some f) n = fault_text f

abbrev pub lines_of : List Placed → List ℕ
lines_of xs = flat_map (λ x. line_of x ++ codes "\n") xs

-- the listing of a tape: what it means, a line for each record, and its end
pub record Lists (t text : List ℕ) : Type 0 where
  pub records : List Placed
  pub fault : Option TapeFault
  pub means : Means t (map part_of records) (ending_of fault)
  pub is : text ≡ lines_of records ++ (end_text fault (length t) ++ codes "\n")
