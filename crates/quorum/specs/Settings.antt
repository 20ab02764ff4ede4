-- M acceptors and N instances, as every call is given them.
-- Assumes nothing.
use Rattle.std.specs.Prelude.{◌≡◌, Bool, true, ◌&&◌, ◌||◌, ◌↔◌, ◌⊎◌, ℕ, ◌≤◌, eqb, leb}
use Rattle.quorum.specs.declared.Settings.{Settings}

-- M acceptors: 3, 5 or 7.
unfoldable pub acceptors_allowed : (acceptors : ℕ) → Bool
acceptors_allowed acceptors = eqb acceptors 3 || eqb acceptors 5 || eqb acceptors 7

-- N instances: 1 to 1,024.
unfoldable pub instances_allowed : (instances : ℕ) → Bool
instances_allowed instances = leb 1 instances && leb instances 1024

-- Both M and N are allowed.
unfoldable pub allowed : Settings → Bool
allowed settings = acceptors_allowed settings.acceptors && instances_allowed settings.instances

-- M and N, as a call is given them.
abbrev pub settings : (acceptors instances : ℕ) → Settings
settings acceptors instances = record { acceptors = acceptors; instances = instances }

-- Allowed exactly where M is 3, 5 or 7 and N is 1 to 1,024.
abbrev pub AllowedExactly : Type 0
AllowedExactly = (M N : ℕ) → (allowed (settings M N) ≡ true) ↔ (((M ≡ 3) ⊎ ((M ≡ 5) ⊎ (M ≡ 7))) × (1 ≤ N) × (N ≤ 1024))
