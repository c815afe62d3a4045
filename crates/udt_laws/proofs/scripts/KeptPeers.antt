-- No two sockets of a host get the same own peer, whatever happens to one, where nobody there has adopted a first peer.
use Rattle.std.proofs.Common.{◌≡◌, ℕ, ◌+◌, List, [], ◌∷◌, ◌++◌, length, Some, refl, sym}
use Rattle.std.specs.Prelude.{slice_get, slice_set}
use Rattle.udt_model.specs.Network.{ScriptSocket}
use Rattle.udt_model.specs.Rate.{Ways}
use Rattle.udt_model.specs.Records.{PeerPair, own_peer}
use Rattle.udt_laws.proofs.scripts.EachSocket.{Each, each-set, each-more, each-one}

module _ {C : Type 0} (w : Ways C) where
  -- two sockets with the same own peer at one host stand at the same place
  abbrev pub HaveOwnPeers : List (ScriptSocket C) → Type 0
  HaveOwnPeers sockets =
      (k m : ℕ) (socket other : ScriptSocket C) (peer : PeerPair) → slice_get sockets k ≡ Some socket
      → slice_get sockets m ≡ Some other
      → socket.host ≡ other.host → own_peer w socket.history ≡ Some peer → own_peer w other.history ≡ Some peer → k ≡ m

  -- a socket may be added, or replaced by another one of its host, whose own peer, where it has one, no socket there has but
  -- this one
  pub record MayTake (sockets : List (ScriptSocket C)) (place : ℕ) (new : ScriptSocket C) : Type 0 where
    pub alone : (m : ℕ) (other : ScriptSocket C) (peer : PeerPair) → slice_get sockets m ≡ Some other → other.host ≡ new.host
        → own_peer w new.history ≡ Some peer → own_peer w other.history ≡ Some peer → m ≡ place

  pub set-keeps_peers : (sockets : List (ScriptSocket C)) (place : ℕ) (old new : ScriptSocket C)
      → slice_get sockets place ≡ Some old
      → MayTake sockets place new → HaveOwnPeers sockets → HaveOwnPeers (slice_set sockets place new)
  set-keeps_peers sockets place old new here may peers k m socket other peer at other_at =
      each-set sockets place old new
      (λ i a. Each (slice_set sockets place new) (λ j b. a.host ≡ b.host → own_peer w a.history ≡ Some peer
      → own_peer w b.history ≡ Some peer → i ≡ j)) here
      (λ i a a_at. each-set sockets place old new
      (λ j b. a.host ≡ b.host → own_peer w a.history ≡ Some peer → own_peer w b.history ≡ Some peer → i ≡ j) here
      (λ j b b_at. peers i j a b peer a_at b_at)
      (λ host mine its. may.alone i a peer a_at host its mine))
      (each-set sockets place old new
      (λ j b. new.host ≡ b.host → own_peer w new.history ≡ Some peer → own_peer w b.history ≡ Some peer → place ≡ j) here
      (λ j b b_at host mine its. sym (may.alone j b peer b_at (sym host) mine its))
      (λ host mine its. refl))
      k socket at m other other_at

  -- a socket may be added whose own peer, where it has one, no socket of its host has
  pub add-keeps_peers : (sockets : List (ScriptSocket C)) (new : ScriptSocket C)
      → ((m : ℕ) (other : ScriptSocket C) (peer : PeerPair) → slice_get sockets m ≡ Some other → other.host ≡ new.host
      → own_peer w new.history ≡ Some peer → own_peer w other.history ≡ Some peer → ⊥)
      → HaveOwnPeers sockets → HaveOwnPeers (sockets ++ new ∷ [])
  add-keeps_peers sockets new alone peers k m socket other peer at other_at =
      each-more sockets (new ∷ [])
      (λ i a. Each (sockets ++ new ∷ []) (λ j b. a.host ≡ b.host → own_peer w a.history ≡ Some peer
      → own_peer w b.history ≡ Some peer → i ≡ j))
      (λ i a a_at. each-more sockets (new ∷ [])
      (λ j b. a.host ≡ b.host → own_peer w a.history ≡ Some peer → own_peer w b.history ≡ Some peer → i ≡ j)
      (λ j b b_at. peers i j a b peer a_at b_at)
      (each-one new (λ j b. a.host ≡ b.host → own_peer w a.history ≡ Some peer → own_peer w b.history ≡ Some peer
      → i ≡ length sockets + j)
      (λ host its mine. absurd (alone i a peer a_at host mine its))))
      (each-one new
      (λ i a. Each (sockets ++ new ∷ [])
      (λ j b. a.host ≡ b.host → own_peer w a.history ≡ Some peer → own_peer w b.history ≡ Some peer → length sockets + i ≡ j))
      (each-more sockets (new ∷ [])
      (λ j b. new.host ≡ b.host → own_peer w new.history ≡ Some peer → own_peer w b.history ≡ Some peer → length sockets + 0 ≡ j)
      (λ j b b_at host mine its. absurd (alone j b peer b_at (sym host) mine its))
      (each-one new
      (λ j b. new.host ≡ b.host → own_peer w new.history ≡ Some peer → own_peer w b.history ≡ Some peer
      → length sockets + 0 ≡ length sockets + j)
      (λ host mine its. refl))))
      k socket at m other other_at
