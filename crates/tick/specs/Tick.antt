-- One byte of text, mode by mode.
--
--   tick M r b R      the reader and its room after the byte b;  tick_in: in a mode
--   in_mode, in_mode_kept       by the mode that was found, where the room may have changed, and where not
--
-- M are the marks of the bytes, R the room. Assumes nothing. NOT here: that it is the machine's step (crate text_right).
use Rattle.std.specs.Prelude.{ℕ, ◌≡◌, true, false, List}
use Rattle.std.proofs.Common.{sym, ◌∙◌}
use Rattle.std.proofs.Math.Path.{ap}
use Rattle.modes.specs.declared.Mode.{Mode}
use Rattle.modes.specs.declared.Mode.TheVariants as mode
use Rattle.modes.specs.declared.Reader.{Reader}
use Rattle.prolog.specs.Around.{around}
use Rattle.prolog.specs.Tick.{prolog_tick}
use Rattle.content.specs.Text.{data_tick, bang_tick, note_tick, remarked_tick, amper_tick, char_tick}
use Rattle.tags.specs.Markup.{Ticked, kept, markup_tick, first_tick}
use Rattle.tags.specs.Tag.{tag_tick, tagged_tick, gap_tick, att_tick, equals_tick, value_tick, quoted_tick}
use Rattle.ends.specs.Ends.{emptied_tick, end_tick, ended_tick}

unfoldable pub tick_in : Mode → List ℕ → Reader → ℕ → List ℕ → Ticked
tick_in (mode.Prolog p) M r b R = kept (prolog_tick p M r b) R
tick_in mode.First M r b R = first_tick M r b R
tick_in mode.Around M r b R = kept (around M r b mode.Markup) R
tick_in mode.Data M r b R = kept (data_tick M r b mode.Bracket false) R
tick_in mode.Bracket M r b R = kept (data_tick M r b mode.Brackets false) R
tick_in mode.Brackets M r b R = kept (data_tick M r b mode.Brackets true) R
tick_in mode.Markup M r b R = markup_tick M r b R
tick_in mode.Bang M r b R = kept (bang_tick r b) R
tick_in mode.Note M r b R = kept (note_tick M r b mode.Dash) R
tick_in mode.Dash M r b R = kept (note_tick M r b mode.Dashes) R
tick_in mode.Dashes M r b R = kept (remarked_tick r b) R
tick_in mode.Amper M r b R = kept (amper_tick r b) R
tick_in mode.Char M r b R = kept (char_tick r b) R
tick_in mode.Tag M r b R = tag_tick M r b R
tick_in mode.Tagged M r b R = kept (tagged_tick M r b) R
tick_in mode.Gap M r b R = gap_tick M r b R
tick_in mode.Att M r b R = att_tick M r b R
tick_in mode.Equals M r b R = kept (equals_tick M r b) R
tick_in mode.Value M r b R = kept (value_tick M r b) R
tick_in mode.Double M r b R = kept (quoted_tick M r b 2 34) R
tick_in mode.Single M r b R = kept (quoted_tick M r b 4 39) R
tick_in mode.Slash M r b R = kept (emptied_tick r b) R
tick_in mode.End M r b R = kept (end_tick M r b R) R
tick_in mode.Ended M r b R = kept (ended_tick M r b) R

unfoldable pub tick : List ℕ → Reader → ℕ → List ℕ → Ticked
tick M r b R = tick_in r.mode M r b R

module _ (M : List ℕ) (r : Reader) (b : ℕ) (R : List ℕ) where
  pub in_mode : {k : Mode} {x : Ticked} → r.mode ≡ k → x ≡ tick_in k M r b R → x ≡ tick M r b R
  unfolding tick
  in_mode e h = h ∙ ap (λ m. tick_in m M r b R) (sym e)

  pub in_mode_kept : {k : Mode} {x y : Reader} → r.mode ≡ k → x ≡ y → kept y R ≡ tick_in k M r b R → kept x R ≡ tick M r b R
  in_mode_kept e h f = in_mode e (ap (λ z. kept z R) h ∙ f)
