-- Two stores with the same fields are one.
use std.HLevel.{prop→path_p}
use Rattle.std.proofs.Common.{◌≡◌, ◌<◌, ◌≤◌, length, false, IsTrue}
use Rattle.std.specs.Coded.{Coded-set}
use Rattle.graph_edits.specs.Edges.{network_code}
use Rattle.layout_2.specs.Layout.{worn_limit, device_len, journal_room, journal_start}
use Rattle.layout_2.specs.State.{state_with}
use Rattle.checkpoint.specs.Kept.{IsKept, kept_props}
use Rattle.checkpoint.specs.declared.store.Store.{Store}

pub same_store : {D : Type 0} {V : _} → (s t : Store D V) → s.disk ≡ t.disk → s.journal ≡ t.journal → s.slot ≡ t.slot → s.epoch ≡ t.epoch → s.other_gate ≡ t.other_gate
    → s.base_count ≡ t.base_count → s.base ≡ t.base → s.base_tickets ≡ t.base_tickets → s.count ≡ t.count → s.graph ≡ t.graph → s.tickets ≡ t.tickets → s.down ≡ t.down → s ≡ t
same_store {V = V} s t disk journal slot epoch other_gate base_count base base_tickets count graph tickets down = λ i. record {
  disk = disk i;
  journal = journal i;
  slot = slot i;
  epoch = epoch i;
  other_gate = other_gate i;
  base_count = base_count i;
  base = base i;
  base_tickets = base_tickets i;
  count = count i;
  graph = graph i;
  tickets = tickets i;
  down = down i;
  fits = prop→path_p (λ k. count k ≤ worn_limit) (hlevel kept_props) s.fits t.fits i;
  two_slots = prop→path_p (λ k. slot k < 2) (hlevel kept_props) s.two_slots t.two_slots i;
  at = prop→path_p (λ k. (journal k).area.start ≡ journal_start (slot k)) (hlevel kept_props) s.at t.at i;
  room = prop→path_p (λ k. (journal k).area.room ≡ journal_room) (hlevel kept_props) s.room t.room i;
  long = prop→path_p (λ k. length (V.view (disk k)).content ≡ device_len) (hlevel kept_props) s.long t.long i;
  kept = prop→path_p (λ k. IsTrue (V.view (disk k)).keeps_model → down k ≡ false → IsKept (V.view (disk k)) (slot k) (epoch k) (other_gate k) (state_with (base_count k).value (base k).value (base_tickets k).value) (state_with (count k) (graph k) (tickets k)) (journal k).groups) (hlevel (kept_props, Coded-set network_code)) s.kept t.kept i;
}
