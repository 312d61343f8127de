-- The list as a plain value, without files: all that its files stand for, except the floor and the kept replies.
use Rattle.std.specs.Prelude.{ℕ, Bool, ◌||◌, ◌==◌, nat_le, nat_lt, if◌then◌else◌, List, [], ◌∷◌, length, map, None}
use Rattle.std.specs.Option.{option_map_or}
use Rattle.ml_base.specs.Bytes.{Text}
use Rattle.ml_base.specs.Address.{key}
use Rattle.ml_base.specs.Drawn.{nothing_drawn}
use Rattle.ml_base.specs.Name.{set_number}
use Rattle.ml_base.specs.declared.names.Set.{Set}
use Rattle.ml_base.specs.declared.names.Set.TheVariants as sets
use Rattle.ml_config.specs.declared.configuration.Config.{Config}
use Rattle.ml_config.specs.declared.key_file.Keys.{Keys}
use Rattle.ml_subs.specs.Members.{has_key, member_of, with_member, without_member}
use Rattle.ml_subs.specs.declared.member_list.Member.{Member}
use Rattle.ml_filing.specs.declared.posts.Post.{Post}
use Rattle.ml_hold.specs.Held.{Pending}
use Rattle.ml_bounce.specs.Ledger.{Ledger, forget}
use Rattle.ml_digest.specs.declared.posts.Mark.{Mark}
use Rattle.ml_queue.specs.Queue.{Queue}

-- the members of each set, in ascending order of key
abbrev pub Sets : Type 0
Sets = Set → List Member

-- a list: its configuration and keys, five sets, posts of which post n is the n-th, held posts with the next ticket, the ledgers
-- of the sets list and digest, the queue with the next id, and how far the digests have come
pub record Plain : Type 0 where
  pub config : Config
  pub keys : Keys
  pub sets : Sets
  pub posts : List Post
  pub held : Pending
  pub list_ledger : Ledger
  pub digest_ledger : Ledger
  pub queue : Queue
  pub mark : Mark

-- the list that `make` leaves, with this configuration and key
abbrev pub new_list : Config → Text → Plain
new_list c key = record {
  config = c;
  keys = record { key = key; former = None };
  sets = λ set. [];
  posts = [];
  held = nothing_drawn;
  list_ledger = [];
  digest_ledger = [];
  queue = nothing_drawn;
  mark = record { last = 0; issue = 0 };
}

-- a member with the key of this address is in the set
abbrev pub is_in : Plain → Set → Text → Bool
is_in p set who = has_key (key who) (p.sets set)

-- the sender is in the moderators' set
abbrev pub is_moderator : Plain → Text → Bool
is_moderator p sender = is_in p sets.Moderators sender

-- an address as the set spells it, if a member has its key
abbrev pub spelled_in : Plain → Set → Text → Text
spelled_in p set who = option_map_or (λ m. m.who) (member_of (key who) (p.sets set)) who

-- the addresses of a set, in order
abbrev pub addresses : Plain → Set → List Text
addresses p set = map (λ m. m.who) (p.sets set)

-- the set has as many members as it may: 100,000
abbrev pub is_full : Plain → Set → Bool
is_full p set = nat_le 100_000 (length (p.sets set))

-- the sets with these members in one of them
abbrev pub with_members : Set → List Member → Sets → Sets
with_members set ms all = λ s. if set_number s == set_number set then ms else all s

-- the ledger of a set, or no entries if it has none
abbrev pub ledger_of : Plain → Set → Ledger
ledger_of p sets.List = p.list_ledger
ledger_of p sets.Digest = p.digest_ledger
ledger_of p sets.Allow = []
ledger_of p sets.Deny = []
ledger_of p sets.Moderators = []

-- the list with another ledger of a set
abbrev pub with_ledger_of : Set → Ledger → Plain → Plain
with_ledger_of sets.List ledger p = record p { list_ledger = ledger }
with_ledger_of sets.Digest ledger p = record p { digest_ledger = ledger }
with_ledger_of sets.Allow ledger p = p
with_ledger_of sets.Deny ledger p = p
with_ledger_of sets.Moderators ledger p = p

-- the list with an address added to a set at this moment
abbrev pub added : Set → Text → ℕ → Plain → Plain
added set who now p = record p { sets = with_members set (with_member (record { who = who; since = now }) (p.sets set)) p.sets }

-- the list without an address in a set, and without the key's entry in that set's ledger
abbrev pub removed : Set → Text → Plain → Plain
removed set who p = with_ledger_of set (forget (key who) (ledger_of p set)) (record p { sets = with_members set (without_member (key who) (p.sets set)) p.sets })

-- the archive has as many posts as it may: 99,999,999
abbrev pub is_archive_full : Plain → Bool
is_archive_full p = nat_le 99_999_999 (length p.posts)

-- ids or tickets are worn out: a delivery or a timed run could draw more than there are
abbrev pub is_worn : Plain → Bool
is_worn p = nat_lt 999_999_999_997_000 p.queue.next || nat_lt 1_000_000_000_000_000 p.held.next

-- the value of the first row whose test holds, or another one if none does
abbrev pub first_row : {A : Type 0} → List (Bool × A) → A → A
first_row [] otherwise = otherwise
first_row (row ∷ rows) otherwise = if row.0 then row.1 else first_row rows otherwise
