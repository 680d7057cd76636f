-- The numbers of the request for the record in a row.
use Rattle.std.proofs.Common.{◌≡◌, ◌∙◌, refl, sym, ap, ℕ, zero, suc, ◌+◌, ◌*◌, ◌<◌, List, [], ◌∷◌, map, length, length-take-le, slice_get, slice_index, Some, option_map, arith}
use Rattle.std.proofs.Math.Nat.{suc-mul}
use Rattle.std.proofs.lemmas.Option.{slice_get-map, slice_get_within}
use Rattle.model.specs.Configs.{Config}
use Rattle.model.specs.Records.{Record}
use Rattle.model.specs.Requests.{Request, request_back_to}
use Rattle.model.specs.ResolverMemory.{ResolverView}
use Rattle.model.specs.Finishing.{ProxyView}
use Rattle.model.specs.Offers.{sent_request}
use Rattle.model.specs.World.{World}
use Rattle.model.proofs.History.Chain.{element_at, versions_at}
use Rattle.turn_world.specs.Kept.{IsKept, records_of}
use Rattle.turn_world.specs.KeptRequests.{HasNumbersOf, bare_request}
use Rattle.turn_world.specs.declared.kept_record.KeptRecord.{KeptRecord}

pub own_numbers : (s : Request) → HasNumbersOf s s
own_numbers s = record { resolver = refl; proxy = refl; row = refl; previous = refl; version = refl; last_received = refl }

-- the request for a record has the record's numbers
pub record HasRecordNumbers (rec : Record) (received r : ℕ) (q : Request) : Type 0 where
  pub resolver : q.resolver ≡ r
  pub proxy : q.proxy ≡ rec.proxy
  pub row : q.row ≡ rec.row
  pub previous : q.previous ≡ rec.previous
  pub version : q.version ≡ rec.version
  pub last_received : q.last_received ≡ received

pub sent_numbers : (config : Config) (w : World) (r : ℕ) (rec : Record) → HasRecordNumbers rec (slice_index w.received rec.row) r (sent_request config w r rec)
unfolding request_back_to
sent_numbers config w r rec = record { resolver = refl; proxy = refl; row = refl; previous = refl; version = refl; last_received = refl }

element_is : (xs : List ℕ) (i x : ℕ) → slice_get xs i ≡ Some x → x ≡ slice_index xs i
element_is [] i x at = absurd (cc)
element_is (y ∷ ys) zero x at = let same : y ≡ x = cc in sym same
element_is (y ∷ ys) (suc i) x at = element_is ys i x at

-- the version of a record is small
pub row_fits : (config : Config) (w : World) (row : ℕ) (resolvers : List ResolverView) (proxies : List ProxyView) (requests : List (List Request)) (last : ℕ) → IsKept config w resolvers proxies requests last → row < length w.history → row * config.step + config.step < 9223372036854775808
row_fits config w row resolvers proxies requests last keeps within =
    let found = element_at w.history row within in
    let history = keeps.parts.sound.sequencer.history in
    let versions = versions_at config w.history row found.0 history found.1 in
    let limit : found.0.version < 9223372036854775808 = (history row found.0 found.1).representable in
    omega (arith, limit, versions.1, suc-mul row config.step)

pub header_is : (config : Config) (w : World) (rows : List KeptRecord) (row r previous version : ℕ) (one : KeptRecord) (resolvers : List ResolverView) (proxies : List ProxyView) (requests : List (List Request)) (last : ℕ) → w.history ≡ records_of rows → w.received ≡ map (λ (x : KeptRecord). x.received) rows → IsKept config w resolvers proxies requests last → slice_get rows row ≡ Some one → one.proxy ≡ one.rec.known.proxy → previous ≡ row * config.step → version ≡ previous + config.step
    → (rec : Record) → slice_get w.history row ≡ Some rec → HasNumbersOf (sent_request config w r rec) (bare_request (record { resolver = r; proxy = one.proxy; row = row; previous = previous; version = version; last_received = one.received }))
header_is config w rows row r previous version one resolvers proxies requests last is received_are keeps at proxy previous_is version_is rec at_rec =
    record {
      resolver = sym sent.resolver;
      proxy = proxy ∙ ap (λ (x : Record). x.proxy) same ∙ sym sent.proxy;
      row = row_is ∙ sym sent.row;
      previous = previous_is ∙ sym versions.0 ∙ sym sent.previous;
      version = version_is ∙ ap (λ (n : ℕ). n + config.step) previous_is ∙ sym (suc-mul row config.step) ∙ sym versions.1 ∙ sym sent.version;
      last_received = element_is w.received row one.received at_received ∙ ap (slice_index w.received) row_is ∙ sym sent.last_received;
    }
  where
    sent : HasRecordNumbers rec (slice_index w.received rec.row) r (sent_request config w r rec)
    sent = sent_numbers config w r rec

    known : slice_get w.history row ≡ Some one.rec.known
    known = ap (λ (h : List Record). slice_get h row) is ∙ slice_get-map (λ (x : KeptRecord). x.rec.known) rows row ∙ ap (option_map (λ (x : KeptRecord). x.rec.known)) at

    same : one.rec.known ≡ rec
    same = let both : Some one.rec.known ≡ Some rec = sym known ∙ at_rec in cc

    versions : (rec.previous ≡ row * config.step) × (rec.version ≡ suc row * config.step)
    versions = versions_at config w.history row rec keeps.parts.sound.sequencer.history at_rec

    row_is : row ≡ rec.row
    row_is = let within : row < length w.history = slice_get_within w.history row rec at_rec in sym ((keeps.parts.sound.sequencer.history row rec at_rec).row ∙ length-take-le row w.history (omega (arith, within)))

    at_received : slice_get w.received row ≡ Some one.received
    at_received = ap (λ (ns : List ℕ). slice_get ns row) received_are ∙ slice_get-map (λ (x : KeptRecord). x.received) rows row ∙ ap (option_map (λ (x : KeptRecord). x.received)) at
