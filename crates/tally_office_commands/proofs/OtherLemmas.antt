-- Troubles that are no failed write.
use Rattle.std.proofs.Common.{◌≡◌, ◌⊎◌, Result, Ok, Err, IfErr, subst, inl, inr}
use Rattle.tally_office_trouble.specs.Trouble.{IsTroubleOfDatabase, IsTroubleOfMaking, IsTroubleOfOpening, IsTroubleOfReport, IsTroubleOfText}
use Rattle.tally_office_trouble.specs.Troubles.{IsOverLimit, IsTroubleOfFile, IsTroubleOfFileImport, IsTroubleOfReading, IsTroubleOfSetupText}
use Rattle.tally_office_trouble.specs.declared.trouble.Trouble.{Trouble}
use Rattle.tally_office_trouble.specs.declared.trouble.Trouble.TheVariants as trouble

pub of-database : (t : Trouble) → IsTroubleOfDatabase t → t ≡ trouble.Write → ⊥
of-database t (inl is) e = cc
of-database t (inr is) e = cc

pub of-memory : (t : Trouble) → t ≡ trouble.Memory → t ≡ trouble.Write → ⊥
of-memory t is e = cc

pub of-opening : (t : Trouble) → IsTroubleOfOpening t → t ≡ trouble.Write → ⊥
of-opening t (inl is) e = cc
of-opening t (inr (inl is)) e = cc
of-opening t (inr (inr (inl is))) e = cc
of-opening t (inr (inr (inr is))) e = of-database t is e

pub of-making : (t : Trouble) → IsTroubleOfMaking t → t ≡ trouble.Write → ⊥
of-making t (inl (fault, place, is, other)) e = cc
of-making t (inr (inl is)) e = cc
of-making t (inr (inr is)) e = of-database t is e

of-file : (t : Trouble) → IsTroubleOfFile t → t ≡ trouble.Write → ⊥
of-file t (inl is) e = cc
of-file t (inr is) e = cc

of-setup-text : (t : Trouble) → IsTroubleOfSetupText t → t ≡ trouble.Write → ⊥
of-setup-text t (inl over) e = subst IsOverLimit e over
of-setup-text t (inr (inl is)) e = cc
of-setup-text t (inr (inr is)) e = cc

pub of-reading : (t : Trouble) → IsTroubleOfReading t → t ≡ trouble.Write → ⊥
of-reading t (inl is) = of-file t is
of-reading t (inr is) = of-setup-text t is

pub of-report : (t : Trouble) → IsTroubleOfReport t → t ≡ trouble.Write → ⊥
of-report t (inl is) e = cc
of-report t (inr (inl is)) e = cc
of-report t (inr (inr (inl is))) e = cc
of-report t (inr (inr (inr is))) e = of-database t is e

of-text : (t : Trouble) → IsTroubleOfText t → t ≡ trouble.Write → ⊥
of-text t (inl is) e = cc
of-text t (inr (inl is)) e = cc
of-text t (inr (inr (inl is))) e = cc
of-text t (inr (inr (inr (inl is)))) e = cc
of-text t (inr (inr (inr (inr is)))) e = of-database t is e

pub of-file-import : (t : Trouble) → IsTroubleOfFileImport t → t ≡ trouble.Write → ⊥
of-file-import t (inl is) = of-file t is
of-file-import t (inr is) = of-text t is

-- the same of a trouble that may be there
pub other : {S : Type 0} (Own : Trouble → Type 0) → ((t : Trouble) → Own t → t ≡ trouble.Write → ⊥) → (outcome : Result S Trouble) → IfErr outcome Own → IfErr outcome (λ t. t ≡ trouble.Write → ⊥)
other Own never (Ok text) named = tt
other Own never (Err t) named = never t named
