-- The runs that begin in a loaded state, whatever the script and the input: which entries loading makes, which rows land and
-- sign under IB, and what is left of the input.
use Rattle.std.proofs.Common.{◌≡◌, ℕ, false, List, [], sym, ap, subst, ◌∙◌}
use Rattle.std.specs.Prelude.{All, ◌&&◌}
use Rattle.std.proofs.lemmas.List.Folds.{list_any_none}
use Rattle.pa_pac.specs.declared.event.Entry.{Entry}
use Rattle.pa_pac.specs.Signing.{Code}
use Rattle.pa_object.specs.Rows.{branches_indirectly, signs_under_ib, is_land, is_sign_under_ib}
use Rattle.pa_object.specs.Run.{Script, Watched, watched}
use Rattle.pa_image.specs.declared.image.Image.{Image}
use Rattle.pa_load.specs.Loaded.{State, IsLoaded, begun_in, filling}
use Rattle.pa_load.proofs.Known.{IsSlotSign, log_signs}
use Rattle.pa_load.proofs.Laws.{AreLoadable}
use Rattle.pa_load.proofs.State.{begun_watches}
use Rattle.pa_load.proofs.Whole.{others_are}
use Rattle.pa_laws.specs.Input.{left_of}
use Rattle.pa_laws.specs.Made.{is_loading, noted_at, ComesOf}
use Rattle.pa_laws.proofs.Input.{begins_input, run_input}
use Rattle.pa_laws.proofs.Made.{begins_comes, run_lands, run_loading, run_signs_under_ib}

module _ (code : Code) (main runtime : Image) (slide : ℕ) (state : State) (l : AreLoadable main runtime) (i : IsLoaded code main runtime slide state) where
  -- each entry is the signature of a slot of the program
  pub entries_are : All (IsSlotSign code (filling main runtime slide) main.fixes) state.log
  entries_are =
      let log = ap (λ (s : State). s.log) i.state_is ∙ (others_are code main runtime slide).0 in
      subst (All (IsSlotSign code (filling main runtime slide) main.fixes)) (sym log) (log_signs code (filling main runtime slide) main.fixes)

  loads_no_land : noted_at is_loading is_land state.log ≡ false
  loads_no_land = list_any_none _ state.log (λ k d lt. ap (λ (entry : Entry). is_loading entry.when && is_land entry.event) (entries_are k d lt).entry_is)

  module _ (input : List ℕ) where
    -- before its first instruction
    abbrev pub beginning : Watched
    beginning = record { machine = begun_in state input; trail = [] }

    module _ (script : Script) (n : ℕ) where
      abbrev pub reached : Watched
      reached = watched code script n beginning

      -- each Land stands at an instruction that is an indirect branch, and each of these has one
      pub loaded_lands : ComesOf is_land branches_indirectly reached.trail reached.machine.log
      loaded_lands =
          let w = begun_watches code main runtime slide state l i input in
          run_lands code script n beginning w (begins_comes is_land branches_indirectly state.log w.before)

      -- none is of loading
      pub no_land_of_loading : noted_at is_loading is_land reached.machine.log ≡ false
      no_land_of_loading = run_loading code script is_land n beginning ∙ loads_no_land

      -- each Sign under IB that isn't of loading stands at PACIBSP or PACIB, and each of these has one
      pub loaded_signs_under_ib : ComesOf is_sign_under_ib signs_under_ib reached.trail reached.machine.log
      loaded_signs_under_ib =
          let w = begun_watches code main runtime slide state l i input in
          run_signs_under_ib code script n beginning w (begins_comes is_sign_under_ib signs_under_ib state.log w.before)

      -- what is left of the input
      pub loaded_input : reached.machine.input ≡ left_of input reached.trail
      loaded_input = run_input code script input n beginning (begins_input input)
