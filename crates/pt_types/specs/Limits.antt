-- The limits of a program (this project's own choice).
use Rattle.std.specs.Prelude.{ℕ}

-- the most claims that a platform makes in a run, unless the command states another number
abbrev pub usual_claims : ℕ
usual_claims = 200000

-- the greatest number of claims that a command may state
abbrev pub greatest_claims : ℕ
greatest_claims = 100000000

-- the greatest time of a file, in microseconds: some 31 years
abbrev pub most_time : ℕ
most_time = 1000000000000000

-- the most bytes of a graph file
abbrev pub most_graph_bytes : ℕ
most_graph_bytes = 1048576

-- the most bytes of a log that is judged
abbrev pub most_log_bytes : ℕ
most_log_bytes = 67108864
