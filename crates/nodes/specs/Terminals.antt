-- A terminal that runs by itself, and the ticket that it hands out for each operation it begins.
use Rattle.std.specs.Prelude.{◌≡◌, ℕ, ◌≤◌, Bool, false, ◌&&◌, ◌⊎◌, Ok, Err, Result, ◌==◌, nat_lt}
use Rattle.std.specs.Result.{result_and}
use Rattle.stamps.specs.Trays.{Memory}
use Rattle.stores.specs.Faults.{located}
use Rattle.nodes.specs.Beginning.{BeganRead, BeganWrite}
use Rattle.nodes.specs.Clients.{answered}
use Rattle.nodes.specs.Faults.{NodeFault, ensured}
use Rattle.nodes.specs.Making.{HasSizes, MadeIf, all_keys, may_run}
use Rattle.nodes.specs.Messages.{well_formed}
use Rattle.nodes.specs.Nodes.{new_client, halted_client}
use Rattle.nodes.specs.declared.client.Activity.{Activity}
use Rattle.nodes.specs.declared.client.Activity.TheVariants.{Reading, Writing}
use Rattle.nodes.specs.declared.client.Answered.{Answered}
use Rattle.nodes.specs.declared.client.Assignment.{Assignment}
use Rattle.nodes.specs.declared.client.Client.{Client}
use Rattle.nodes.specs.declared.fault.NodeCause.{NodeCause}
use Rattle.nodes.specs.declared.fault.NodeCause.TheVariants.{NoSuchClient, NoSuchKey, Malformed, Misfit}
use Rattle.nodes.specs.declared.message.Body.{Body}
use Rattle.nodes.specs.declared.message.Body.TheVariants.{Resp, Ack}
use Rattle.nodes.specs.declared.message.Message.{Message}
use Rattle.nodes.specs.declared.terminal.Terminal.{Terminal}
use Rattle.nodes.specs.declared.ticket.Ticket.{Ticket}
use Rattle.nodes.specs.declared.ticket.Unfinished.{Unfinished}

-- client me of so many, or why there is none
abbrev pub may_run_client : ℕ → ℕ → ℕ → Result (Unit {0}) NodeCause
may_run_client f m me = may_run f m m NoSuchClient me

pub record IsNewTerminal (f m me : ℕ) (x : Terminal) : Type 0 where
  pub client : x.client ≡ new_client
  pub number : x.me ≡ me
  pub sizes : HasSizes f m all_keys x.sizes

abbrev pub MadeTerminal : ℕ → ℕ → ℕ → Result Terminal NodeFault → Type 0
MadeTerminal f m me r = MadeIf (located me (may_run_client f m me)) (IsNewTerminal f m me) r

-- who it is, and of what net, stays
abbrev pub SameTerminal : Terminal → Terminal → Type 0
SameTerminal x x' = (x'.sizes ≡ x.sizes) × (x'.me ≡ x.me)

-- the ticket of the operation that was begun last
abbrev pub ticket_of : ℕ → Client → Ticket
ticket_of me c = record { client = me; operation = c.begun }

-- the ticket is of an operation: operations are numbered from 1
abbrev pub IsNumbered : Ticket → Type 0
IsNumbered t = 1 ≤ t.operation

-- whether the net has the key, and 8 if not
abbrev pub has_key : Terminal → ℕ → Result (Unit {0}) NodeFault
has_key x key = located x.me (ensured (nat_lt key x.sizes.keys) NoSuchKey)

-- 8 first, then as the client's record says; what is begun has a ticket
abbrev pub Ticketed : (Result (Unit {0}) NodeFault → Client → Memory Message → Type 0) → ℕ → Terminal → Memory Message → Result Ticket NodeFault → Terminal → Memory Message → Type 0
Ticketed began key x p (Ok t) x' p' = (has_key x key ≡ Ok tt) × began (Ok tt) x'.client p' × (t ≡ ticket_of x.me x'.client) × SameTerminal x x'
Ticketed began key x p (Err e) x' p' =
    ((has_key x key ≡ Err e) × (x' ≡ x) × (p' ≡ p))
    ⊎ ((has_key x key ≡ Ok tt) × began (Err e) x'.client p' × SameTerminal x x')

abbrev pub TicketedRead : ℕ → Terminal → Memory Message → Result Ticket NodeFault → Terminal → Memory Message → Type 0
TicketedRead key x p r x' p' = Ticketed (BeganRead x.me x.sizes.servers key x.client p) key x p r x' p'

abbrev pub TicketedWrite : Assignment → Terminal → Memory Message → Result Ticket NodeFault → Terminal → Memory Message → Type 0
TicketedWrite a x p r x' p' = Ticketed (BeganWrite x.me x.sizes.servers a x.client p) a.key x p r x' p'

-- the ticket is of the open operation
abbrev pub is_open : ℕ → Activity → Bool
is_open t (Reading p key) = t == p
is_open t (Writing p) = t == p
is_open t activity = false

abbrev pub is_mine : Terminal → Ticket → Bool
is_mine x t = t.client == x.me && is_open t.operation x.client.activity

-- the answer is the one that the open operation waits for
abbrev pub is_awaited : ℕ → Activity → Body → Bool
is_awaited o (Reading p key) (Resp shown s) = p == o
is_awaited o (Writing p) (Ack s) = p == o
is_awaited o activity body = false

-- it is, and the ticket is that operation's
abbrev pub fits : Terminal → Ticket → Message → Bool
fits x t m = m.client == x.me && (is_mine x t && is_awaited m.operation x.client.activity m.body)

-- 10 for a malformed message, 30 for one that does not fit
abbrev pub may_finish : Terminal → Ticket → Message → Result (Unit {0}) NodeCause
may_finish x t m = result_and (ensured (well_formed x.sizes m) Malformed) (ensured (fits x t m) Misfit)

-- the ticket is gone where it may be, and else it comes back with the fault
abbrev pub Spent : Ticket → Result (Unit {0}) NodeFault → Result (Unit {0}) Unfinished → Type 0
Spent t may (Ok _) = may ≡ Ok tt
Spent t may (Err u) = (may ≡ Err u.fault) × (u.ticket ≡ t)

-- the answer is taken
abbrev pub Finish : Ticket → Message → Terminal → Result Answered Unfinished → Terminal → Type 0
Finish t m x (Ok r) x' =
    Spent t (located x.me (may_finish x t m)) (Ok tt)
    × (x'.client ≡ (answered x.client m).client) × (r ≡ (answered x.client m).answer) × SameTerminal x x'
Finish t m x (Err u) x' = Spent t (located x.me (may_finish x t m)) (Err u) × (x' ≡ x)

-- 30 for a foreign ticket
abbrev pub may_abandon : Terminal → Ticket → Result (Unit {0}) NodeCause
may_abandon x t = ensured (is_mine x t) Misfit

-- the terminal halts
abbrev pub Abandoned : Ticket → Terminal → Result (Unit {0}) Unfinished → Terminal → Type 0
Abandoned t x (Ok _) x' = Spent t (located x.me (may_abandon x t)) (Ok tt) × (x'.client ≡ halted_client x.client) × SameTerminal x x'
Abandoned t x (Err u) x' = Spent t (located x.me (may_abandon x t)) (Err u) × (x' ≡ x)
