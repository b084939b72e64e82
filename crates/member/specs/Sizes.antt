-- The sizes of what is lent to the calls over the table (01, "Room"). They are exact: a longer piece is as wrong as a shorter one.
use Rattle.std.specs.Prelude.{ℕ, Bool, ◌&&◌, eqb}

-- four places of 1,454 octets for each of eight records
abbrev pub held_size : ℕ
held_size = 46528

-- five cells of 1,454 octets
abbrev pub deliver_size : ℕ
deliver_size = 7270

abbrev pub reply_size : ℕ
reply_size = 64

-- a cell of 64 octets for each record
abbrev pub cell_size : ℕ
cell_size = 64

abbrev pub cells_size : ℕ
cells_size = 512

abbrev pub cid_size : ℕ
cid_size = 16

-- records of the table
abbrev pub table_size : ℕ
table_size = 8

-- ---- refusal 1 is given if these do not hold. The arguments are the sizes lent

unfoldable pub message_sizes : ℕ → ℕ → ℕ → ℕ → ℕ → ℕ → Bool
message_sizes table held deliver reply sender ours =
    eqb table table_size
    && eqb held held_size
    && eqb deliver deliver_size
    && eqb reply reply_size
    && eqb sender cid_size
    && eqb ours cid_size

unfoldable pub elapsed_sizes : ℕ → ℕ → Bool
elapsed_sizes table cells = eqb table table_size && eqb cells cells_size

unfoldable pub leave_sizes : ℕ → ℕ → ℕ → Bool
leave_sizes table reply owner = eqb table table_size && eqb reply reply_size && eqb owner cid_size
