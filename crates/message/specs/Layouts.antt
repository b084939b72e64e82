-- The fields of the messages' data (000, figures 10 to 20, 22 and 26): d is the data, and the numbers are places in it.
use Rattle.std.specs.Prelude.{ℕ, ◌+◌, cond, List, get_or, eqb}
use Rattle.octets.specs.Octets.{number_at}
use Rattle.counter.specs.declared.Total.{Total}
use Rattle.counter.specs.declared.Reliable.{Reliable}
use Rattle.message.specs.Lengths.{null, ipv4}
use Rattle.message.specs.declared.Cid.{Cid}
use Rattle.message.specs.declared.Membership.{Membership}
use Rattle.message.specs.declared.Parameters.{Parameters}
use Rattle.message.specs.declared.Endpoint.{Endpoint}
use Rattle.message.specs.declared.Address.{Address}
use Rattle.message.specs.declared.Address.TheVariants as address
use Rattle.message.specs.declared.Join.{Join}
use Rattle.message.specs.declared.Wrapper.{Wrapper}

abbrev pub total : ℕ → Total
total n = record { 0 = n }

abbrev pub reliable : ℕ → Reliable
reliable n = record { 0 = n }

unfoldable pub cid_at : List ℕ → ℕ → Cid
cid_at d at = record { high = number_at d at 8; low = number_at d (at + 8) 8 }

-- figures 14, 15, 17 and 19 begin alike: leader, channel, MID, reliable number; 24 octets
unfoldable pub membership_of : List ℕ → Membership
membership_of d =
    record {
      leader = cid_at d 0;
      channel = number_at d 16 2;
      mid = number_at d 18 2;
      reliable = reliable (number_at d 20 4);
    }

-- figure 20: 20 octets, and contents behind them
unfoldable pub wrapper_of : List ℕ → Wrapper
wrapper_of d =
    record {
      channel = number_at d 0 2;
      total = total (number_at d 2 4);
      reliable = reliable (number_at d 6 4);
      oldest = reliable (number_at d 10 4);
      first = number_at d 14 2;
      last = number_at d 16 2;
      threshold = number_at d 18 2;
    }

-- figure 13, the channel parameter block of 8 octets, and the ad-hoc expiry that ends a Join
unfoldable pub parameters_at : List ℕ → ℕ → Parameters
parameters_at d at =
    record {
      expiry = get_or d at 0;
      flags = get_or d (at + 1) 0;
      holdoff = number_at d (at + 2) 2;
      modulus = number_at d (at + 4) 2;
      maxwait = number_at d (at + 6) 2;
      adhoc = get_or d (at + 8) 0;
    }

-- figure 12 past its type: port and address
unfoldable pub endpoint_at : List ℕ → ℕ → Endpoint
endpoint_at d at = record { port = number_at d at 2; host = number_at d (at + 2) 4 }

-- a Join's address: its type is the octet behind the 30 fixed ones. With another type than null or IPv4 nothing behind it is looked at
unfoldable pub address_of : List ℕ → Address
address_of d =
    cond (eqb (get_or d 30 0) null) (address.Null (parameters_at d 31))
    (cond (eqb (get_or d 30 0) ipv4) (address.Ipv4 (endpoint_at d 31) (parameters_at d 37))
    (address.Other (get_or d 30 0)))

-- figure 10: its fixed fields are 30 octets
unfoldable pub join_of : List ℕ → Join
join_of d =
    record {
      cid = cid_at d 0;
      mid = number_at d 16 2;
      channel = number_at d 18 2;
      reciprocal = number_at d 20 2;
      total = total (number_at d 22 4);
      reliable = reliable (number_at d 26 4);
      address = address_of d;
    }
