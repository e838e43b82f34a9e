-- What faults tell of a content.
use Rattle.std.proofs.Common.{◌≡◌, ℕ, List, Option, Result, Ok, Err, IfErr, IsErrOf, refl, ap, inl, subst, sym}
use Rattle.layout_reader.specs.declared.refusals.OpenRefused.{OpenRefused}
use Rattle.layout_reader.specs.declared.refusals.OpenRefused.TheVariants.{NotFormatted, BadVersion, Damaged, Device, Memory}
use Rattle.disk_trait.specs.Disk.{DiskView, reading_leaves}
use Rattle.graph_edits.specs.declared.edits.Op.{Op}
use Rattle.layout_2.specs.State.{State}
use Rattle.checkpoint.specs.Opening.{IsNotOpened, TellsContent}
use Rattle.command_output.specs.declared.fault.Fault.{Fault}
use Rattle.command_output.specs.declared.fault.Fault.TheVariants as fault
use Rattle.device_commands.specs.Edits.{EditsDevice}
use Rattle.device_commands.specs.Openings.{AnswersOf, IsChangeFault, IsOpenFault, IsUnwrittenFault, TellsNotOpened, TellsOf, open_fault}

-- a refused opening's fault tells what the refusal does
opening_tells : (disk left : DiskView) (why : OpenRefused) → TellsContent disk left why → TellsOf (open_fault why) disk.content
opening_tells disk left NotFormatted tells = (tells.not_formatted refl, tells.stands_for_none tt)
opening_tells disk left BadVersion tells = (tells.bad_version refl, tells.stands_for_none tt)
opening_tells disk left Damaged tells = (tells.damaged refl, tells.stands_for_none tt)
opening_tells disk left Device tells = tt
opening_tells disk left Memory tells = tt

-- and is one of an opening
pub is_open_fault : (refused : OpenRefused) → IsOpenFault (open_fault refused)
is_open_fault NotFormatted = tt
is_open_fault BadVersion = tt
is_open_fault Damaged = tt
is_open_fault Device = tt
is_open_fault Memory = tt

-- where a fault isn't one of an opening, an opening doesn't end by it
never_told : {A : Type 0} (f other : Fault) → ¬ (IsOpenFault other) → IsOpenFault f → ◌≡◌ {A = Result A Fault} (Err f) (Err other) → ⊥
never_told f other never is same = never (subst IsOpenFault (let e : f ≡ other = cc in e) is)

-- that of a failed call of the device comes of nothing else
pub device_alone : (refused : OpenRefused) → open_fault refused ≡ fault.Device → refused ≡ Device
device_alone NotFormatted is = absurd (cc)
device_alone BadVersion is = absurd (cc)
device_alone Damaged is = absurd (cc)
device_alone Device is = refl
device_alone Memory is = absurd (cc)

-- a change's faults tell nothing of a content
pub change_tells : (fault : Fault) (content : List ℕ) → IsChangeFault fault → TellsOf fault content
change_tells fault.Device content is = tt
change_tells fault.Memory content is = tt
change_tells fault.NoThread content is = tt
change_tells fault.Internal content is = tt
change_tells fault.Worn content is = tt
change_tells fault.AlreadyIn content is = tt
change_tells _ content is = absurd is

-- of them these three alone are told where nothing was written
unwritten_by : (f : Fault) (P : Type 0) → IsChangeFault f → (f ≡ fault.AlreadyIn → P) → (f ≡ fault.Worn → P) → (f ≡ fault.NoThread → P) → IsUnwrittenFault f → P
unwritten_by fault.Device P is told worn thread un = absurd un
unwritten_by fault.Memory P is told worn thread un = absurd un
unwritten_by fault.NoThread P is told worn thread un = thread refl
unwritten_by fault.Internal P is told worn thread un = absurd un
unwritten_by fault.Worn P is told worn thread un = worn refl
unwritten_by fault.AlreadyIn P is told worn thread un = told refl
unwritten_by _ P is told worn thread un = absurd is

pub change_unwritten : {A : Type 0} (r : Result A Fault) (P : Type 0) → IfErr r (λ f. IsChangeFault f) → (IsErrOf r fault.AlreadyIn → P) → (IsErrOf r fault.Worn → P) → (IsErrOf r fault.NoThread → P) → IfErr r (λ f. IsUnwrittenFault f → P)
change_unwritten (Ok a) P is told worn thread = tt
change_unwritten (Err f) P is told worn thread = unwritten_by f P is (λ same. told (ap Err same)) (λ same. worn (ap Err same)) (λ same. thread (ap Err same))

-- where memory alone ran out, all that holds of that holds of the fault
pub of_memory : {A : Type 0} (r : Result A Fault) (P : Fault → Type 0) → P fault.Memory → IfErr r (λ f. f ≡ fault.Memory) → IfErr r P
of_memory (Ok a) P has is = tt
of_memory (Err f) P has is = subst P (sym is) has

pub never_device : {A : Type 0} (r : Result A Fault) → IfErr r (λ f. f ≡ fault.Memory) → IsErrOf r fault.Device → ⊥
never_device {A = A} r is same =
    let memory : fault.Device ≡ fault.Memory = subst (λ (x : Result A Fault). IfErr x (λ f. f ≡ fault.Memory)) same is in
    absurd (cc)

-- ---- a device that wasn't opened

-- so it says of the device what the refusal says
pub not_opened : (disk left : DiskView) (why : OpenRefused) (f : Fault) → f ≡ open_fault why → IsNotOpened disk left why → TellsNotOpened disk left f
not_opened disk left why f same is = subst (λ (f : Fault). TellsNotOpened disk left f) (sym same) (record {
  fault = is_open_fault why;
  tells = λ model. opening_tells disk left why (is.of_model model);
  device = λ told. is.device (device_alone why told);
  reads = λ model. (is.of_model model).reads;
  ran = is.ran;
})

-- what was asked of a device that wasn't opened is answered so
pub not_asked : {X : Type 0} (IsAnswer : State → X → Type 0) (disk left : DiskView) (f : Fault) → TellsNotOpened disk left f → AnswersOf IsAnswer disk left (Err f)
not_asked {X = X} IsAnswer disk left f told = record {
  of_one = tt;
  of_content = λ model state stands. tt;
  faults = told.fault;
  reading = record {
    tells = told.tells;
    device = λ is. told.device (let same : f ≡ fault.Device = cc in same);
    reads = told.reads;
    ran = told.ran;
  };
}

-- and so a change of it
pub not_edited : (session : ℕ) (named : Option ℕ) (change : List Op) (disk left : DiskView) (f : Fault) → TellsNotOpened disk left f → EditsDevice session named change disk left (Err f)
not_edited session named change disk left f told = record {
  of_one = tt;
  of_content = λ model state stands. record {
    verdict = tt;
    new = tt;
    left = tt;
    already_in = λ is. absurd (never_told f fault.AlreadyIn (λ x. x) told.fault is);
    worn = λ is. absurd (never_told f fault.Worn (λ x. x) told.fault is);
    refused = λ refused. told.reads model;
    kept = λ keeps not image may. keeps image ((told.reads model).left image may);
    any_moment = λ keeps. reading_leaves disk left _ (told.reads model) (λ image may. inl (keeps image may));
  };
  unwritten = λ model un. told.reads model;
  tells = told.tells;
  device = λ is. told.device (let same : f ≡ fault.Device = cc in same);
  faults = inl told.fault;
  ran = told.ran;
}
