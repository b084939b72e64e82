-- What it means that an answer lies inside the block (01, "Blocks and layouts": "the place of each message's vector and data within the block"). That every answer does
-- is proved (proofs/Inside.antt).
use Rattle.std.specs.Prelude.{ℕ, ◌+◌, ◌<◌, ◌≤◌, false, List, ◌≡◌, length}
use Rattle.block.specs.Cursor.{astray}
use Rattle.block.specs.declared.Cursor.{Cursor}
use Rattle.block.specs.declared.Found.{Found}

-- a message whose vector and data lie within the first `size` octets
pub record In (size : ℕ) (m : Found) : Type 0 where
  pub vector : m.vector < size
  pub body : m.place + m.len ≤ size

-- the message before a place where a PDU begins lies before it, unless that PDU is the first
abbrev pub Before : ℕ → Found → Type 0
Before at m = 0 < at → In at m

-- a message inside the block, and a cursor further on in it which lies behind that message, so that it is not astray either
pub record Ahead (s : List ℕ) (c : Cursor) (m : Found) (d : Cursor) : Type 0 where
  pub inside : In (length s) m
  pub forward : c.next < d.next
  pub within : d.next ≤ length s
  pub before : d.before ≡ m
  pub behind : In d.next m
  pub not_astray : astray (length s) d ≡ false
