-- What of a state says which descriptors can come next and which findings they have, and how a walk goes on behind one.
use Rattle.std.proofs.Common.{◌≡◌, ℕ, Bool, true, false, List, [], ◌∷◌, ◌++◌, append_assoc, length, map, Option, Some, sym, subst}
use Rattle.std.specs.List.{AllByRecursion}
use Rattle.usb_file_data.specs.declared.cause.Found.{Found}
use Rattle.usb_file_data.specs.declared.finding.Part.{Part}
use Rattle.usb_file_data.specs.Causes.{Broken}
use Rattle.usb_file_data.specs.Places.{when}
use Rattle.usb_walk.specs.Trees.{descriptor_length, TreeDescriptor, tree_descriptor}
use Rattle.usb_walk.specs.declared.role.Role.{Role}
use Rattle.usb_remarks.specs.declared.outline_state.OutlineState.{OutlineState}
use Rattle.usb_remarks.specs.Findings.{found_at}
use Rattle.usb_remarks.specs.Outline.{first_entries}
use Rattle.usb_walk.specs.Surroundings.{depth_of}
use Rattle.usb_remarks.proofs.Outlines.{entry_in_tree}
use Rattle.usb_walk.specs.Owners.{of_interface, of_set, owner_above, owner_of, part_in, setting_in}
use Rattle.usb_walk.specs.declared.owner.InterfaceSetting.{InterfaceSetting}
use Rattle.usb_walk.specs.declared.owner.DescriptorOwner.{DescriptorOwner}
use Rattle.usb_remarks.specs.SetStart.{entered}
use Rattle.usb_remarks.specs.OutlineStates.{passed}
use Rattle.usb_walk.specs.Roles.{role_of}
use Rattle.usb_remarks.specs.declared.speed.SetSpeed.{SetSpeed}
use Rattle.usb_remarks.proofs.Spans.{Aim, adding}
use Rattle.usb_remarks.proofs.OutlineStates.{looked_number}
use Rattle.usb_remarks.proofs.Telling.{AllAtPlace, AllBrokenAt, Reported, own_at, reported_behind}
use Rattle.usb_remarks.proofs.rest.Walks.{Ends}
use Rattle.usb_remarks.proofs.rest.Steps.{behind_one, goes_on, left_one}

-- how much of a set is left, whether the device and the language list came, how many sets of each part, which set it is, how
-- many associations and settings of it came, of the last setting its number, how many endpoints, its interface and the address
-- of its last endpoint, and how deep is what extends what came last
pub record Seen : Type 0 where
  pub left : ℕ
  pub known : Bool
  pub spoken : Bool
  pub mains : ℕ
  pub others : ℕ
  pub part : Part
  pub number : ℕ
  pub associations : ℕ
  pub settings : ℕ
  pub setting : ℕ
  pub endpoints : ℕ
  pub interface : InterfaceSetting
  pub address : ℕ
  pub below : ℕ

abbrev pub seen : OutlineState → Seen
seen s = record {
  left = s.position.left;
  known = s.position.has_device;
  spoken = s.position.has_languages;
  mains = s.position.main_sets;
  others = s.position.other_sets;
  part = part_in s.position;
  number = s.position.set;
  associations = s.position.associations;
  settings = s.position.settings;
  setting = s.position.setting;
  endpoints = s.position.endpoints;
  interface = setting_in s.position;
  address = s.position.endpoint;
  below = s.position.below;
}

-- the last of what owns others, and the last interface
abbrev pub whose : Seen → DescriptorOwner
whose v = owner_above v.below (of_set v.part v.number) v.interface v.address

abbrev pub whose_interface : Seen → DescriptorOwner
whose_interface v = of_interface (of_set v.part v.number) v.interface.interface v.interface.alternate

-- from each such state, where these are all that is found or nothing is, a walk over these bytes ends so
abbrev pub Goes : Aim → Option SetSpeed → Seen → List (List Broken) → List ℕ → Type 0
Goes E running v later ahead = (s : OutlineState) (fs : List Found) → seen s ≡ v → Reported s.descriptors later fs → Ends E running s fs ahead

-- of each of these, where it holds
pub of_when : (P : Broken → Type 0) (holds : Bool) (b : Broken) → P b → AllByRecursion P (when holds b)
of_when P true b h = (h, tt)
of_when P false b h = tt

pub of_both : (P : Broken → Type 0) (xs ys : List Broken) → AllByRecursion P xs → AllByRecursion P ys → AllByRecursion P (xs ++ ys)
of_both P [] ys h k = k
of_both P (x ∷ xs) ys h k = (h.0, of_both P xs ys h.1 k)

-- where the descriptor with these findings is entered they are reported, and behind it the later ones
entered_reported : (running : Option SetSpeed) (s : OutlineState) (fs : List Found) (role : Role) (ahead : List ℕ) (later : List (List Broken)) → Reported s.descriptors later fs
    → Reported (entered role running ahead s).descriptors later fs
entered_reported running s fs role ahead later report = subst (λ n. Reported n later fs) (sym (looked_number role running ahead s)) report

pub left_reported : (running : Option SetSpeed) (s : OutlineState) (fs : List Found) (role : Role) (d behind : List ℕ) (mine : List Broken) (later : List (List Broken)) → Reported s.descriptors (mine ∷ later) fs
    → Reported (behind_one running s role d behind).descriptors later (left_one running s fs role d behind)
left_reported running s fs role d behind mine later report =
    reported_behind (entered role running (d ++ behind) s) mine later fs (entered_reported running s fs role (d ++ behind) (mine ∷ later) report)

pub own_reported : (running : Option SetSpeed) (s : OutlineState) (fs : List Found) (role : Role) (ahead : List ℕ) (mine : List Broken) (later : List (List Broken)) → AllBrokenAt (entered role running ahead s).position role mine
    → Reported s.descriptors (mine ∷ later) fs → AllAtPlace (entered role running ahead s).position role (found_at (entered role running ahead s) fs)
own_reported running s fs role ahead mine later own report = own_at (entered role running ahead s) role mine later fs own (entered_reported running s fs role ahead (mine ∷ later) report)

-- a descriptor of this role: it is one, of this depth and this owner, each of these is at its place, and so it stands behind it
pub record Step (running : Option SetSpeed) (s : OutlineState) (role : Role) (d behind : List ℕ) (mine : List Broken) (w : Seen) (depth : ℕ) (owner : Option DescriptorOwner) : Type 0 where
  pub is : role_of s.position d ≡ Some role
  pub own : AllBrokenAt (entered role running (d ++ behind) s).position role mine
  pub after : seen (passed role d (entered role running (d ++ behind) s)) ≡ w
  pub deep : depth_of (entered role running (d ++ behind) s).position role ≡ depth
  pub belongs : owner_of (entered role running (d ++ behind) s).position role d ≡ owner

pub one_goes : (E : Aim) (running : Option SetSpeed) (v w : Seen) (role : Role) (d behind : List ℕ) (mine : List Broken) (later : List (List Broken)) (depth : ℕ) (owner : Option DescriptorOwner)
    → descriptor_length (d ++ behind) ≡ Some (length d) → ((s : OutlineState) → seen s ≡ v → Step running s role d behind mine w depth owner)
    → Goes (adding E (tree_descriptor role depth owner d ∷ [])) running w later behind → Goes E running v (mine ∷ later) (d ++ behind)
one_goes E running v w role d behind mine later depth owner e step onward s fs at report =
    let one = step s at in
    goes_on E running s fs d behind role depth owner e one.is one.deep one.belongs (own_reported running s fs role (d ++ behind) mine later one.own report)
    (onward (behind_one running s role d behind) (left_one running s fs role d behind) one.after (left_reported running s fs role d behind mine later report))

-- the same findings and the same bytes
pub goes_as : (E : Aim) (running : Option SetSpeed) (v : Seen) (later later_as : List (List Broken)) (ahead ahead_as : List ℕ) → later ≡ later_as → ahead ≡ ahead_as
    → Goes E running v later_as ahead_as → Goes E running v later ahead
goes_as E running v later later_as ahead ahead_as e f goes =
    subst (λ l. Goes E running v l ahead) (sym e) (subst (λ l. Goes E running v later_as l) (sym f) goes)

-- a walk that ends so ends as follows from it
pub goes_for : (E F : Aim) (running : Option SetSpeed) (v : Seen) (later : List (List Broken)) (ahead : List ℕ)
    → ((rest : List ℕ) (c : List TreeDescriptor) → E rest c → F rest c) → Goes E running v later ahead → Goes F running v later ahead
goes_for E F running v later ahead follows goes s fs at report n enough =
    let ended = goes s fs at report n enough in
    record {
      walk = ended.walk;
      aimed = follows ended.walk.rest (map entry_in_tree (first_entries n running s fs ahead)) ended.aimed;
      own = ended.own;
      all_reported = ended.all_reported;
    }

-- behind two runs of descriptors, one after the other
pub goes_twice : (E : Aim) (running : Option SetSpeed) (v : Seen) (later : List (List Broken)) (ahead : List ℕ) (xs ys : List TreeDescriptor)
    → Goes (adding E (xs ++ ys)) running v later ahead → Goes (adding (adding E xs) ys) running v later ahead
goes_twice E running v later ahead xs ys goes =
    goes_for (adding E (xs ++ ys)) (adding (adding E xs) ys) running v later ahead
    (λ rest c h. subst (λ l. E rest l) (append_assoc xs ys c) h) goes
