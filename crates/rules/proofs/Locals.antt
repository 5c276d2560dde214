-- Facts on local states of places.
use Rattle.std.proofs.Common.{◌≡◌, ℕ, not, T, refl}
use Rattle.rules.specs.States.{Local, idle, running, parted, finished, poisoned, live, busy, is_parted, is_idle}

pub busy_live : (l : Local) → T (busy l) → T (live l)
busy_live idle h = h
busy_live (running x) h = tt
busy_live (parted x) h = tt
busy_live finished h = absurd h
busy_live poisoned h = tt

pub live_some : (l : Local) → T (live l) → T (not (is_idle l))
live_some idle h = h
live_some (running x) h = tt
live_some (parted x) h = tt
live_some finished h = tt
live_some poisoned h = tt

pub is_parted_lem : (l : Local) → T (is_parted l) → (x : ℕ) × (l ≡ parted x)
is_parted_lem idle h = absurd h
is_parted_lem (running x) h = absurd h
is_parted_lem (parted x) h = (x, refl)
is_parted_lem finished h = absurd h
is_parted_lem poisoned h = absurd h

pub parted_inj : (x y : ℕ) → parted x ≡ parted y → x ≡ y
parted_inj x y e = cc

pub running_inj : (x y : ℕ) → running x ≡ running y → x ≡ y
running_inj x y e = cc
