-- The calls of a run as what is asked of a filter.
use Rattle.std.specs.Prelude.{ℕ, ◌-◌, List, ◌++◌, map, take, replicate}
use Rattle.filter.specs.Calls.{Asked, adding, committing, judging, withdrawing, comparing}
use Rattle.run.specs.declared.call.Call.{Call}
use Rattle.run.specs.declared.call.Call.TheVariants.{Add, Withdraw, Commit, Judge, Compare}

-- a compare asks the same whatever its place holds: the answer shows the frame over zeros
abbrev pub asked : Call → Asked
asked (Add line) = adding line.now
asked (Withdraw i) = withdrawing i
asked Commit = committing
asked (Judge frame) = judging frame.now
asked (Compare place) = comparing (replicate 18 0)

-- what a list of calls asks
abbrev pub all_asked : List Call → List Asked
all_asked calls = map asked calls

-- the first bytes of a place, and zeros behind them
abbrev pub fronted : ℕ → List ℕ → List ℕ
fronted size place = take size place ++ replicate (18 - size) 0
