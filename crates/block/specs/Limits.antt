-- The limits of document 01, each stated once.
use Rattle.std.specs.Prelude.{ℕ}

-- "At most 65,536 bytes"
abbrev pub max_bytes : ℕ
max_bytes = 65536

-- Functions: "At most 64 records", of "0 to 64 instructions".
abbrev pub max_functions : ℕ
max_functions = 64

abbrev pub max_code : ℕ
max_code = 64

-- Opening cells: "At most 1,024".
abbrev pub max_cells : ℕ
max_cells = 1024

-- Calls: "At most 256".
abbrev pub max_calls : ℕ
max_calls = 256

-- "At most 24 distinct keys a call; at most 1,024 in opening and sets together."
abbrev pub max_call_keys : ℕ
max_call_keys = 24

abbrev pub max_keys : ℕ
max_keys = 1024

-- M-104: a call's fuel is "1 to 65,535".
abbrev pub max_fuel : ℕ
max_fuel = 65535

-- "workers not 1 to 8"
abbrev pub max_workers : ℕ
max_workers = 8
