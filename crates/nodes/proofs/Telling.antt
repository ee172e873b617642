-- The list of what was applied tells what the store shows and how far the counts have come.
use Rattle.std.proofs.Common.{◌≡◌, ℕ, zero, suc, ◌+◌, ◌<◌, Bool, true, false, if◌then◌else◌, ◌≢◌, List, [], ◌∷◌, ◌++◌, Some, None, Option, ⊎_elim, slice_index_or, refl, sym, subst, ap, ◌∙◌, arith}
use Rattle.std.proofs.lemmas.Bool.{cases_eq}
use Rattle.std.proofs.lemmas.Grind.{common_steps}
use Rattle.std.proofs.lemmas.List.Sums.{sum_by-append}
use Rattle.stamps.proofs.Counts.{count_with_same, count_with_other}
use Rattle.stamps.specs.Stamps.{clients, count_of}
use Rattle.stores.specs.Stores.{Shown}
use Rattle.stores.specs.declared.record.Record.{Record}
use Rattle.nodes.specs.Servers.{Work, ack, ready_of, stored}
use Rattle.nodes.specs.Serving.{ListTells, ListsTell, brought, is_applied, newly, posting, resp, served_by}
use Rattle.nodes.specs.Settling.{Next, Outcome, all_stored, drained, go_on, in_hand, next_at, next_from, one_more, settled, settled_from, unsettled, write_of, writes_by}
use Rattle.nodes.specs.declared.message.Body.{Body}
use Rattle.nodes.specs.declared.message.Body.TheVariants.{Read, Write, Update, Resp, Ack}
use Rattle.nodes.specs.declared.seat.Seat.{Seat}
use Rattle.nodes.specs.declared.server.Held.{Held}
use Rattle.nodes.specs.declared.server.Server.{Server}
use Rattle.nodes.proofs.Draining.{was_ready}

-- what is next is one of the clients', and can be applied
record IsNext (f : ℕ) (s : Server) (below : ℕ) (n : Next) : Type 0 where
  client : n.client < below
  ready : ready_of f s n.client ≡ Some n.write

next_is : (f : ℕ) (s : Server) (c left : ℕ) (n : Next) → next_from f s c left ≡ Some n → IsNext f s (c + left) n
next_is f s c zero n e = cc
next_is f s c (suc left) n e = at (ready_of f s c) refl e (next_is f s (c + 1) left n)
  where
    at : (o : Option Held) → ready_of f s c ≡ o → next_at c o (next_from f s (c + 1) left) ≡ Some n → (next_from f s (c + 1) left ≡ Some n → IsNext f s (c + 1 + left) n) → IsNext f s (c + suc left) n
    at None not h further = let is = further h in record { client = omega (arith, is.client); ready = is.ready }
    at (Some held) is h further =
        let same : ◌≡◌ {A = Next} (record { client = c; write = held }) n = cc in
        record { client = omega (arith, ap (λ (x : Next). x.client) same); ready = grind (arith, common_steps, same, is) }

one_more_same : (c : ℕ) (rs : List Record) (r : Record) → r.entry.client ≡ c → writes_by c (rs ++ r ∷ []) ≡ writes_by c rs + 1
one_more_same c rs r e = grind (arith, common_steps, sum_by-append)

one_more_other : (c : ℕ) (rs : List Record) (r : Record) → r.entry.client ≢ c → writes_by c (rs ++ r ∷ []) ≡ writes_by c rs
one_more_other c rs r ne = grind (arith, common_steps, sum_by-append)

one_more_stored : (shown : Shown) (rs : List Record) (r : Record) → all_stored shown (rs ++ r ∷ []) ≡ stored (all_stored shown rs) r.key r.entry
one_more_stored shown [] r = refl
one_more_stored shown (s ∷ rs) r = one_more_stored (stored shown s.key s.entry) rs r

module _ (t : Seat) (w : Work) (o : Outcome) (n : Next) (is : IsNext t.sizes.f o.after.server t.sizes.clients n) (was : ListTells w o) where
  abbrev r : Record
  r = write_of n.client n.write

  abbrev k : ℕ
  k = count_of n.write.stamp n.client

  abbrev Told : ℕ → Type 0
  Told c = count_of (one_more t.me n o).after.server.stamp c ≡ count_of w.server.stamp c + writes_by c (one_more t.me n o).applied

  known : n.client < clients
  known = omega (arith, is.client, t.sizes.few_clients)

  here : (c : ℕ) → n.client ≡ c → Told c
  here c e =
      let next = (was_ready t.sizes.f o.after.server n.client n.write is.ready).1 in
      subst Told e (omega (arith, next, was.counts n.client known, count_with_same o.after.server.stamp n.client k known, one_more_same n.client o.applied r refl))

  other : (c : ℕ) → c < clients → n.client ≢ c → Told c
  other c below ne = omega (arith, was.counts c below, count_with_other o.after.server.stamp n.client k c known (λ e. ne (sym e)), one_more_other c o.applied r ne)

  one_more_tells : ListTells w (one_more t.me n o)
  one_more_tells = record {
    shown = ap (λ shown. stored shown r.key r.entry) was.shown ∙ sym (one_more_stored w.shown o.applied r);
    counts = λ c below. ⊎_elim (here c) (other c below) (cases_eq n.client c);
  }

drained_tells : (t : Seat) (w : Work) (times : ℕ) (o : Outcome) → ListTells w o → ListTells w (drained t times o)
drained_tells t w zero o was = was
drained_tells t w (suc times) o was = at (next_from t.sizes.f o.after.server 0 t.sizes.clients) refl (drained_tells t w times)
  where
    at : (next : Option Next) → next_from t.sizes.f o.after.server 0 t.sizes.clients ≡ next → ((p : Outcome) → ListTells w p → ListTells w (drained t times p)) → ListTells w (go_on t.me o (drained t times) next)
    at None none further = was
    at (Some n) is further =
        let found = next_is t.sizes.f o.after.server 0 t.sizes.clients n is in
        further (one_more t.me n o) (one_more_tells t w o n (record { client = omega (arith, found.client); ready = found.ready }) was)

none_applied : (w v : Work) → v.shown ≡ w.shown → v.server.stamp ≡ w.server.stamp → ListTells w (unsettled v)
none_applied w v shown stamp = record { shown = shown; counts = λ c below. grind (arith, common_steps, stamp) }

settled_tells : (t : Seat) (w v : Work) → v.shown ≡ w.shown → v.server.stamp ≡ w.server.stamp → ListTells w (settled t v)
unfolding settled_from
settled_tells t w v shown stamp = drained_tells t w (in_hand v.server.queues) (unsettled v) (none_applied w v shown stamp)

pub outcome_tells : ListsTell
outcome_tells t w m = served_tells m.body
  where
    either : (b : Bool) (x y : Outcome) → ListTells w x → ListTells w y → ListTells w (if b then x else y)
    either true x y left right = left
    either false x y left right = right

    served_tells : (b : Body) → ListTells w (served_by t w m b)
    served_tells (Read key stamp) = none_applied w (posting (resp t.me m (slice_index_or w.shown key None) w.server.stamp) w) refl refl
    served_tells (Write p) =
        let acked = posting (ack t.me m.client m.operation w.server.stamp) w in
        let taken = newly t (brought m p None) w in
        either (is_applied w.server m.client p.number) (unsettled acked) (settled t taken) (none_applied w acked refl refl) (settled_tells t w taken refl refl)
    served_tells (Update p) =
        let taken = newly t (brought m p (Some m.sender)) w in
        either (is_applied w.server m.client p.number) (unsettled w) (settled t taken) (none_applied w w refl refl) (settled_tells t w taken refl refl)
    served_tells (Resp shown stamp) = none_applied w w refl refl
    served_tells (Ack stamp) = none_applied w w refl refl
