-- Sizes of a record's parts in bytes, and the limits of a group, as the format gives them.
use Rattle.std.specs.Prelude.{ℕ}

-- the byte of an open gate; each other byte is closed
abbrev pub open_gate : ℕ
open_gate = 1

-- the byte that is written to close a gate
abbrev pub closed_gate : ℕ
closed_gate = 0

-- an op that adds an edge
abbrev pub add_kind : ℕ
add_kind = 1

-- an op that sets a weight
abbrev pub set_kind : ℕ
set_kind = 2

-- an op that cuts an edge
abbrev pub cut_kind : ℕ
cut_kind = 3

-- the length of a payload
abbrev pub length_size : ℕ
length_size = 4

-- a record up to its payload
abbrev pub record_head : ℕ
record_head = 5

-- a payload up to its first entry
abbrev pub count_size : ℕ
count_size = 2

-- a change up to its first op
abbrev pub change_head : ℕ
change_head = 1

-- an op
abbrev pub op_size : ℕ
op_size = 9

-- the most entries of a group
abbrev pub most_entries : ℕ
most_entries = 64

-- the shortest change
abbrev pub least_change : ℕ
least_change = 10

-- the longest
abbrev pub most_change : ℕ
most_change = 145

-- a request up to its first op
abbrev pub request_head : ℕ
request_head = 10

-- the shortest request
abbrev pub least_request : ℕ
least_request = 19

-- the longest
abbrev pub most_request : ℕ
most_request = 154

-- the longest entry of any form
abbrev pub most_entry : ℕ
most_entry = 154

-- the longest record of any form
abbrev pub most_record : ℕ
most_record = 9863
