-- A PDU as it is written, and a block of such PDUs (01, "Blocks and layouts": the short length with V, H and D set).
use Prim.{Unit}
use Rattle.std.specs.Prelude.{ℕ, ◌+◌, ◌<◌, List, [], ◌∷◌, ◌++◌, ◌≡◌, length, get_or, drop, Some, None, Ok}
use Rattle.octets.specs.Octets.{octets, part}
use Rattle.block.specs.Block.{read_block}
use Rattle.block.specs.declared.Found.{Found}

-- V, H and D set and L clear, with the length below them: 0x7000 and the length, in two octets
abbrev pub head : ℕ → ℕ → List ℕ
head size vector = octets 2 (28672 + size) ++ octets 1 vector

-- a PDU of this vector and these data; its head is three octets. It is one while the vector is an octet and the length is below 4,096, where
-- the short length ends (whoever writes sees to that)
abbrev pub pdu : ℕ → List ℕ → List ℕ
pdu vector body = head (3 + length body) vector ++ body

-- what a message is in a block: its vector and its data
pub record Piece : Type 0 where
  pub vector : ℕ
  pub body : List ℕ

-- a block put together from messages
unfoldable pub together : List Piece → List ℕ
together [] = []
together (m ∷ ms) = pdu m.vector m.body ++ together ms

-- ---- what reading them back means; that it is so is proved (proofs/Together.antt)

-- f names the vector and the data of m in the block s
pub record Names (s : List ℕ) (f : Found) (m : Piece) : Type 0 where
  pub vector : get_or s f.vector 0 ≡ m.vector
  pub body : part s f.place f.len ≡ m.body

-- a message that can be written: its vector is an octet, and the length of its PDU fits in twelve bits
pub record Short (m : Piece) : Type 0 where
  pub vector : m.vector < 256
  pub body : 3 + length m.body < 4096

-- each of them can be written
abbrev pub AllShort : List Piece → Type 0
AllShort [] = Unit
AllShort (m ∷ ms) = Short m × AllShort ms

-- a block that is one written PDU
pub record Alone (vector : ℕ) (body : List ℕ) : Type 0 where
  pub message : read_block (pdu vector body) 0 ≡ Ok (Some (record { vector = 2; place = 3; len = length body }))
  pub vector_there : get_or (pdu vector body) 2 0 ≡ vector
  pub body_there : drop 3 (pdu vector body) ≡ body
  pub no_other : read_block (pdu vector body) 1 ≡ Ok None
