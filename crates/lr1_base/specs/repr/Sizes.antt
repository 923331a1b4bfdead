-- The sizes of docs/RULES.md, said once. What one of something takes in words is its room.
use Rattle.std.specs.Prelude.{ℕ, ◌+◌, ◌*◌}

-- records of a table (refusal 1)
abbrev pub record_limit : ℕ
record_limit = 8192

-- the counts of record 0 (refusal 2)
abbrev pub nonterminal_limit : ℕ
nonterminal_limit = 32

abbrev pub terminal_limit : ℕ
terminal_limit = 63

abbrev pub state_limit : ℕ
state_limit = 128

abbrev pub production_limit : ℕ
production_limit = 128

-- symbols of a production (refusal 5), and the places of a cursor among them
abbrev pub symbol_limit : ℕ
symbol_limit = 16

abbrev pub index_limit : ℕ
index_limit = symbol_limit + 1

-- items of all productions
abbrev pub item_limit : ℕ
item_limit = production_limit * index_limit

-- words of 64 flags, one flag for each item
abbrev pub item_flags : ℕ
item_flags = 34

-- a production as the code keeps it (specs/repr/Packed): nonterminal, number of symbols, span, then kind and number of each symbol; where production p begins; all of them
abbrev pub production_room : ℕ
production_room = 4 + 2 * symbol_limit

abbrev pub production_place : ℕ → ℕ
production_place p = p * production_room

abbrev pub grammar_room : ℕ
grammar_room = production_place production_limit

-- distinct edges of a trace graph (refusal 12); an edge; where edge k begins, behind a count; a lent graph (refusal 11)
abbrev pub edge_limit : ℕ
edge_limit = 1024

abbrev pub edge_room : ℕ
edge_room = 8

abbrev pub edge_place : ℕ → ℕ
edge_place k = k * edge_room + 1

abbrev pub graph_room : ℕ
graph_room = edge_place edge_limit

-- scratch for tracing and listing, and for classifying and choosing (refusal 11)
abbrev pub scratch_words : ℕ
scratch_words = 32000

abbrev pub classify_scratch : ℕ
classify_scratch = 8000

-- trials of one listing (refusal 13)
abbrev pub trial_limit : ℕ
trial_limit = 100000

-- reductions and symbols of an example; a reduction; where reduction k begins, behind three counts and the symbols; a lent example buffer (refusal 11)
abbrev pub reduction_limit : ℕ
reduction_limit = nonterminal_limit + 1

abbrev pub example_symbols : ℕ
example_symbols = reduction_limit * symbol_limit

abbrev pub reduction_room : ℕ
reduction_room = 3

abbrev pub reduction_place : ℕ → ℕ → ℕ
reduction_place symbols k = 3 + 2 * symbols + reduction_room * k

abbrev pub example_room : ℕ
example_room = reduction_place example_symbols reduction_limit

-- a label as the code hands it on (nonterminal, production, index), and those of an example
abbrev pub label_room : ℕ
label_room = 3

abbrev pub labels_room : ℕ
labels_room = label_room * reduction_limit

-- examples handed out on one side of a classification (refusal 14)
abbrev pub example_limit : ℕ
example_limit = 192

-- chosen tokens with their classes: as many as there are tokens; one in words; where the kth begins; all of them
abbrev pub entry_limit : ℕ
entry_limit = terminal_limit + 1

abbrev pub entry_room : ℕ
entry_room = 6

abbrev pub entry_place : ℕ → ℕ
entry_place k = k * entry_room

abbrev pub entries_room : ℕ
entries_room = entry_place entry_limit
