-- A machine in memory in which only more was shown and warned.
use Rattle.std.proofs.Common.{◌≡◌, ℕ, ◌≤◌, List, length, Some, refl, arith, ◌∙◌, subst, inl}
use Rattle.ql_edge.specs.Disk.{Files}
use Rattle.ql_edge.specs.Events.{AreImages, AreImagesSince, steps_of, read_after}
use Rattle.ql_edge.specs.Images.{same_twice, reads_images, counts_images, only_images}
use Rattle.ql_edge.specs.MemMachine.{files_of, first_of, events_of, texts_of, IsReshown}
use Rattle.ql_edge.specs.Stops.{IsSameBut}
use Rattle.ql_edge.specs.declared.event.Event.{Event}
use Rattle.ql_edge.specs.declared.memory.MemMachine.{MemMachine}
use Rattle.ql_edge.specs.declared.volume.Which.TheVariants as which

-- a state is the same as itself
pub same_self : (first : Files) (es : List Event) (f : Files) (told : List ℕ × List ℕ) → IsSameBut (Some f) (Some f) (AreImages first es) (AreImages first es) (length es) (length es) (AreImagesSince first es) (AreImagesSince first es) (Some told) (Some told)
same_self first es f told = record { held = refl; stops = λ c left. left; stops_back = λ c left. left; moments = record { later = omega arith; keeps = λ t n c past. past; adds = λ t n c early now. inl now } }

pub reshown_self : (x : MemMachine) → IsReshown x x
reshown_self x = record { name = refl; rises = omega arith; volume = same_self (first_of x) (events_of x) (files_of x) (texts_of x) }

pub reshown_twice : (x y z : MemMachine) → IsReshown x y → IsReshown y z → IsReshown x z
reshown_twice x y z p q = record {
  name = q.name ∙ p.name;
  rises = omega (arith, p.rises, q.rises);
  volume = same_twice _ _ _ _ _ _ _ _ _ (texts_of x) (texts_of y) (texts_of z) p.rises q.rises p.volume q.volume;
}

-- what is read is what a stop may leave
pub machine_reads : (m : MemMachine) → AreImages (first_of m) (events_of m) (files_of m)
machine_reads m =
    let images = reads_images (first_of m) (events_of m) m.disk.data_valid m.disk.log_valid in
    subst (λ f. AreImages (first_of m) (events_of m) (m.disk.data_bytes, f)) m.disk.log_read (subst (λ f. AreImages (first_of m) (events_of m) (f, read_after (steps_of which.Log (events_of m)) m.disk.first_log)) m.disk.data_read images)

pub machine_counts : (m : MemMachine) (t : ℕ) (c : Files) → t ≤ length (events_of m) → AreImages (first_of m) (events_of m) c → AreImagesSince (first_of m) (events_of m) t (length m.shown) c
machine_counts m t c early left = subst (λ n. AreImagesSince (first_of m) (events_of m) t n c) m.counted (counts_images (first_of m) (events_of m) t c early left)

pub machine_only : (m : MemMachine) (n : ℕ) (c : Files) → AreImagesSince (first_of m) (events_of m) (length (events_of m)) n c → AreImages (first_of m) (events_of m) c × (n ≡ length m.shown)
machine_only m n c since = let now = only_images (first_of m) (events_of m) n c since in (now.0, now.1 ∙ m.counted)
