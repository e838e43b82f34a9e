pub mod ClusterLemmas
