-- What a reading or a refusal says of each demo and each fault.
use Rattle.std.proofs.Common.{◌≡◌, ◌≢◌, ℕ, ◌-◌, ◌↔◌, List, ◌∷◌, ◌++◌, length, take, drop, Result, Ok, Err, refl, sym, ap, ◌∙◌, arith, subst, length-append}
use Rattle.std.proofs.lemmas.List.{take-append-drop}
use Rattle.demo_lump.specs.Header.{IsHeader, RefusesHeader}
use Rattle.demo_lump.specs.Demo.{AreCommands, RefusesDemo, Demo, IsRead}
use Rattle.demo_lump.specs.Scanning.{commands_of}
use Rattle.demo_lump.specs.Scanning.{Scans}
use Rattle.demo_lump.specs.declared.command.Command.{Command}
use Rattle.demo_lump.specs.declared.header.Header.{Header}
use Rattle.demo_lump.specs.declared.fault.DemoFault.{DemoFault}
use Rattle.demo_lump.specs.declared.fault.DemoFault.TheVariants.{Empty, Version, ShortHeader, NoPlayers, NoMarker}
use Rattle.demo_lump.proofs.CommandLemmas.{AreCommands-is}
use Rattle.demo_lump.proofs.ReadingLemmas.{IsDemo-one, IsDemo-not_refused, RefusesDemo-one}

pub RefusesDemo-header : (bytes : List ℕ) (fault : DemoFault) → RefusesHeader bytes fault
    → RefusesDemo bytes fault
RefusesDemo-header bytes Empty r = r
RefusesDemo-header bytes (Version version) r = r
RefusesDemo-header bytes ShortHeader r = r
RefusesDemo-header bytes NoPlayers r = r
RefusesDemo-header bytes (NoMarker place) r = absurd r

-- demos of the same parts are the same
pub same_demos : (demo other : Demo) → demo.header ≡ other.header → demo.commands ≡ other.commands
    → demo.after ≡ other.after → demo ≡ other
same_demos demo other headers commands after =
    ap (λ (h : Header). record demo { header = h }) headers
    ∙ ap (λ (cs : List Command). record demo { header = other.header; commands = cs }) commands
    ∙ ap (λ (n : ℕ). record other { after = n }) after

pub IsRead-one : (bytes : List ℕ) (demo other : Demo) → IsRead bytes demo → IsRead bytes other
    → demo ≡ other
IsRead-one bytes demo other d e =
    let one =
    IsDemo-one bytes demo.header other.header demo.commands other.commands d.rest e.rest d.reads
    e.reads in
    same_demos demo other one.0 one.1 (d.counted ∙ ap length one.2 ∙ sym e.counted)

module _ (bytes : List ℕ) where
  pub only_demo : (found : Demo) → IsRead bytes found → (demo : Demo)
      → (◌≡◌ {A = Result Demo DemoFault} (Ok found) (Ok demo)) ↔ IsRead bytes demo
  only_demo found read demo = (
    λ e. let is : found ≡ demo = cc in subst (IsRead bytes) is read,
    λ h. ap (λ d. Ok d) (IsRead-one bytes found demo read h),
  )

  pub no_fault : (found : Demo) → IsRead bytes found → (fault : DemoFault)
      → (◌≡◌ {A = Result Demo DemoFault} (Ok found) (Err fault)) ↔ RefusesDemo bytes fault
  no_fault found read fault = (
    λ e. absurd (let f : ⊥ = cc in f),
    λ r. absurd (IsDemo-not_refused bytes found.header found.commands read.rest fault read.reads r),
  )

  pub no_demo : (fault : DemoFault) → RefusesDemo bytes fault → (demo : Demo)
      → (◌≡◌ {A = Result Demo DemoFault} (Err fault) (Ok demo)) ↔ IsRead bytes demo
  no_demo fault refused demo = (
    λ e. absurd (let f : ⊥ = cc in f),
    λ h. absurd (IsDemo-not_refused bytes demo.header demo.commands h.rest fault h.reads refused),
  )

  pub only_fault : (fault : DemoFault) → RefusesDemo bytes fault → (other : DemoFault)
      → (◌≡◌ {A = Result Demo DemoFault} (Err fault) (Err other)) ↔ RefusesDemo bytes other
  only_fault fault refused other = (
    λ e. let is : fault ≡ other = cc in subst (RefusesDemo bytes) is refused,
    λ r. ap (λ f. Err f) (RefusesDemo-one bytes fault other refused r),
  )

  -- a header, what a scan of the bytes behind it found, and a marker or not
  module _ (header : Header) (count : ℕ) (rest : List ℕ) (begins : IsHeader (take 13 bytes) header)
      (scan : Scans header.version (drop 13 bytes) count rest) where
    joined : bytes ≡ take 13 bytes ++ (scan.so_far.body ++ rest)
    joined = sym (take-append-drop 13 bytes) ∙ ap (λ t. take 13 bytes ++ t) scan.so_far.joined

    pub IsRead-scan : (more : List ℕ) → rest ≡ 128 ∷ more
        → IsRead bytes (record {
          header = header;
          commands = commands_of header.version count (drop 13 bytes);
          after = length more;
        })
    IsRead-scan more marked =
        let f = scan.so_far in
        let is : f.commands ≡ commands_of header.version count (drop 13 bytes) =
        AreCommands-is header.version f.body rest f.commands f.follow
        ∙ ap (λ b. commands_of header.version (length f.commands) b) (sym f.joined)
        ∙ ap (λ n. commands_of header.version n (drop 13 bytes)) f.counted in
        record {
          rest = more;
          reads = record {
            front = take 13 bytes;
            body = f.body;
            joined = joined ∙ ap (λ t. take 13 bytes ++ (f.body ++ t)) marked;
            begins = begins;
            follow = subst (AreCommands header.version f.body) is f.follow;
          };
          counted = refl;
        }

    pub RefusesDemo-scan : ((more : List ℕ) → rest ≢ 128 ∷ more)
        → RefusesDemo bytes (NoMarker (length bytes - length rest))
    RefusesDemo-scan unmarked = record {
      header = header;
      commands = scan.so_far.commands;
      front = take 13 bytes;
      body = scan.so_far.body;
      rest = rest;
      joined = joined;
      begins = begins;
      follow = scan.so_far.follow;
      most = scan.most;
      unmarked = unmarked;
      placed =
          omega (
            arith,
            ap length joined,
            length-append (take 13 bytes) (scan.so_far.body ++ rest),
            length-append scan.so_far.body rest,
          );
    }
